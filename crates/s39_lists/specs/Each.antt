-- Steps of which each may refuse: one after the other, and one for each element of a list.
use Rattle.std.specs.Prelude.{List, [], ◌∷◌, Result, Ok, Err}

-- what a step gives of a value, unless the value was refused
abbrev pub and_then : {A B E : Type 0} → (A → Result B E) → Result A E → Result B E
and_then f (Ok a) = f a
and_then f (Err e) = Err e

-- one value before others
abbrev pub before_others : {B E : Type 0} → Result B E → Result (List B) E → Result (List B) E
before_others (Err e) rest = Err e
before_others (Ok b) (Err e) = Err e
before_others (Ok b) (Ok bs) = Ok (b ∷ bs)

-- what a step gives of each element in turn, up to the first that is refused
abbrev pub each : {A B E : Type 0} → (A → Result B E) → List A → Result (List B) E
each f [] = Ok []
each f (x ∷ xs) = before_others (f x) (each f xs)
