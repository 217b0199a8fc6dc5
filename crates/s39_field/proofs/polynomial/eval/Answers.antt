use Rattle.std.proofs.Common.{◌≡◌, List, [], ◌∷◌, ◌++◌, sym, ap, ◌∙◌, append_assoc, append-nil}
use Rattle.std.proofs.lemmas.List.{nil_from_length}
use Rattle.s39_field.specs.Field.{Operations, IsField}
use Rattle.s39_field.specs.Polynomial.{value_at}
use Rattle.s39_field.proofs.Values.{value_at-cons}
use Rattle.s39_field.proofs.polynomial.eval.Goals as goal

-- the value with one coefficient more in front
next_value : {F : Type 0} (f : Operations F) (is : IsField f) (c : F) (taken : List F) (x value product sum : F)
    → f.IsElement c
    → value ≡ value_at f taken x
    → product ≡ f.mul value x
    → sum ≡ f.add product c
    → sum ≡ value_at f (c ∷ taken) x
next_value f is c taken x value product sum element so_far times plus =
    plus
    ∙ ap (λ p. f.add p c) (times ∙ ap (λ v. f.mul v x) so_far)
    ∙ is.add_commutes (f.mul (value_at f taken x) x) c
    ∙ sym (value_at-cons f is c taken x element)

pub loop-c-init : goal.loop-c-init
loop-c-init g c =
    let rest =
    ap (λ i. i.iter.rest.now) c.into_iter-c-iterator.ensures.into_iter_gives
    ∙ ap (λ i. i.rest.now) c.rev-c-items.ensures.source
    ∙ c.iter.ensures.rest in
    ([], sym (append-nil _ ∙ rest), c.ZERO-value.ensures ∙ g.met.F.Field.zero_is)

pub loop-c-preserved : goal.loop-c-preserved
loop-c-preserved g c =
    let taken = c.loop-c.invariant.0 in
    let first = c.in-Some.c.now in (
      first ∷ taken,
      c.loop-c.invariant.1 ∙ ap (λ l. l ++ taken) c.in-Some.ensures.steps ∙ append_assoc c.next.new.self.iter.rest.now (first ∷ []) taken,
      next_value g.F.Field.operations g.met.F.Field.is_field first taken c.args.x c.loop-c.value c.mul.result c.add-value.result
          c.add-value.ensures.other_element c.loop-c.invariant.2 c.mul.ensures.product c.add-value.ensures.sum,
    )

pub returns : goal.returns
returns g c =
    let rest = c.loop-c.c-iterator.iter.rest.now in
    let taken = c.loop-c.invariant.0 in
    let none = nil_from_length rest c.in-None.ensures.steps.0 in
    c.loop-c.invariant.2 ∙ ap (λ l. value_at g.F.Field.operations l c.args.x) (sym (c.loop-c.invariant.1 ∙ ap (λ l. l ++ taken) none))
