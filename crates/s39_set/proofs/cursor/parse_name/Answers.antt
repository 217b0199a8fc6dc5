use Rattle.std.proofs.Common.{ap, ap₂, Some, None, ℕ, ◌≡◌, refl}
use Rattle.s39_set.proofs.NameText.{same_cut, cut_of_name, name_of_cut}
use Rattle.s39_set.proofs.cursor.parse_name.Goals as goal

pub returns-in_err-front-clause-only : goal.returns-in_err-front-clause-only
returns-in_err-front-clause-only c = λ name is. absurd (c.in_err-front.ensures.none refl _ _ (cut_of_name c.args.text.now name is))

pub returns-in_err-group-clause-only : goal.returns-in_err-group-clause-only
returns-in_err-group-clause-only c = λ name is.
    let parts = same_cut _ _ _ _ _ _ c.in_ok-front.ensures.parts (cut_of_name c.args.text.now name is) in
    let none : None ≡ Some name.0 = c.in_err-group.ensures.only name.0 is.group parts.0 in
    absurd (cc)

pub returns-in_err-member-clause-only : goal.returns-in_err-member-clause-only
returns-in_err-member-clause-only c = λ name is.
    let parts = same_cut _ _ _ _ _ _ c.in_ok-front.ensures.parts (cut_of_name c.args.text.now name is) in
    let none : None ≡ Some name.1 = c.in_err-member.ensures.only name.1 is.member parts.1 in
    absurd (cc)

pub returns-clause-name : goal.returns-clause-name
returns-clause-name c =
    name_of_cut c.args.text.now c.in_ok-front.front.now c.in_ok-front.back.now (c.in_ok-group.group, c.in_ok-member.member) c.in_ok-front.ensures.parts
    c.in_ok-group.ensures.below c.in_ok-member.ensures.below c.in_ok-group.ensures.text c.in_ok-member.ensures.text

pub returns-clause-only : goal.returns-clause-only
returns-clause-only c = λ name is.
    let parts = same_cut _ _ _ _ _ _ c.in_ok-front.ensures.parts (cut_of_name c.args.text.now name is) in
    let first : Some c.in_ok-group.group ≡ Some name.0 = c.in_ok-group.ensures.only name.0 is.group parts.0 in
    let second : Some c.in_ok-member.member ≡ Some name.1 = c.in_ok-member.ensures.only name.1 is.member parts.1 in
    let group : c.in_ok-group.group ≡ name.0 = cc in
    let member : c.in_ok-member.member ≡ name.1 = cc in
    ap Some (ap₂ (λ (x y : ℕ). (x, y)) group member)
