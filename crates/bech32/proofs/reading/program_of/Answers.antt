use Rattle.std.proofs.Common.{◌≡◌, ◌+◌, ◌-◌, length, map, take, drop, sym, ap, ◌∙◌, arith}
use Rattle.std.proofs.lemmas.List.{length-map, length-drop, take_rest}
use Rattle.std.proofs.lemmas.List.Elements.{All-same}
use Rattle.bech32.specs.Groups.{IsGroup}
use Rattle.bech32.specs.Segwit.{group_of}
use Rattle.bech32.specs.Reading.{lower, letters_behind, groups_behind, program_groups, bytes_of}
use Rattle.bech32.proofs.Texts.{part, part-below}
use Rattle.bech32.proofs.reading.program_of.Goals as goal

pub bytes_of-requires-clause-below : goal.bytes_of-requires-clause-below
bytes_of-requires-clause-below c =
    let prefix = c.args.prefix.now in
    let text = c.args.text.now in
    let k = length prefix + 1 in
    let gs = c.deref-3.result.now in
    let same : gs ≡ groups_behind prefix text =
    c.deref-3.ensures.0 ∙ c.groups_of-groups.ensures
    ∙ ap (map group_of) (take_rest c.deref.result.now k ∙ ap (drop k) (c.deref.ensures.0 ∙ c.lower_case-lower.ensures)) in
    let n : c.len.result ≡ length gs = c.len.ensures.value ∙ ap length (sym c.deref-3.ensures.0) in
    let long : length gs ≡ length text - k =
    ap length same ∙ length-map (letters_behind prefix text) group_of ∙ length-drop k (lower text) ∙ ap (λ j. j - k) (length-map text _) in
    let is : take (c.len.result - 6 - 1) (drop 1 gs) ≡ program_groups (groups_behind prefix text) =
    part gs c.len.result n (omega arith) ∙ ap program_groups same in
    All-same IsGroup (take (c.len.result - 6 - 1) (drop 1 gs)) (program_groups (groups_behind prefix text)) is (part-below prefix text c.requires.letters)

pub returns-clause-program : goal.returns-clause-program
returns-clause-program c =
    let prefix = c.args.prefix.now in
    let text = c.args.text.now in
    let k = length prefix + 1 in
    let gs = c.deref-3.result.now in
    let same : gs ≡ groups_behind prefix text =
    c.deref-3.ensures.0 ∙ c.groups_of-groups.ensures
    ∙ ap (map group_of) (take_rest c.deref.result.now k ∙ ap (drop k) (c.deref.ensures.0 ∙ c.lower_case-lower.ensures)) in
    let n : c.len.result ≡ length gs = c.len.ensures.value ∙ ap length (sym c.deref-3.ensures.0) in
    let long : length gs ≡ length text - k =
    ap length same ∙ length-map (letters_behind prefix text) group_of ∙ length-drop k (lower text) ∙ ap (λ j. j - k) (length-map text _) in
    let is : take (c.len.result - 6 - 1) (drop 1 gs) ≡ program_groups (groups_behind prefix text) =
    part gs c.len.result n (omega arith) ∙ ap program_groups same in
    c.bytes_of.ensures ∙ ap bytes_of is
