use Rattle.std.proofs.Common.{◌≤◌, length, map, ◌∙◌, arith}
use Rattle.std.proofs.lemmas.List.Elements.{All-same}
use Rattle.bech32.specs.Groups.{IsGroup}
use Rattle.bech32.specs.Segwit.{group_of}
use Rattle.bech32.specs.Reading.{first_bad_letter}
use Rattle.bech32.proofs.Alphabet.{groups-below}
use Rattle.bech32.proofs.reading.letters_refusal.Goals as goal

pub groups_refusal-requires-clause-below : goal.groups_refusal-requires-clause-below
groups_refusal-requires-clause-below c =
    let letters = c.args.letters.now in
    let right : length letters ≤ first_bad_letter letters = omega arith in
    All-same IsGroup c.deref.result.now (map group_of letters) (c.deref.ensures.0 ∙ c.groups_of.ensures) (groups-below letters right)
