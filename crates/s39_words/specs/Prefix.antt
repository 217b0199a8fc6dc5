-- The words of the list that begin with given letters.
use Rattle.std.specs.Prelude.{ℕ, List, Bool, nat_eq}
use Rattle.std.specs.List.{starts_with}
use Rattle.std.specs.Str.{str_to_ascii_lowercase}

-- whether a word begins with these letters, in which ASCII capitals count as small letters
abbrev pub begins_with : List ℕ → List ℕ → Bool
begins_with letters word = starts_with nat_eq word (str_to_ascii_lowercase letters)
