-- Steps along a path.
use Rattle.std.proofs.Common.{◌≡◌, ℕ, ◌+◌, ◌<◌, ◌≤◌, List, [], ◌∷◌, ◌++◌, length, drop, get_or, Option, Some, None, refl, sym, ap, ◌∙◌, arith}
use Rattle.std.proofs.lemmas.List.{at_drop_more, drop_all}
use Rattle.std.specs.Option.{option_and_then, option_map}
use Rattle.bip32.specs.declared.extended_key.ExtendedKey.{ExtendedKey}
use Rattle.bip32.specs.declared.node.Node.{Node}
use Rattle.bip32.specs.Derivation.{child}
use Rattle.bip32.specs.Fingerprint.{fingerprint}
use Rattle.bip32.specs.Paths.{at}
use Rattle.bip32.specs.Serialization.{child_of, master_node, node_at}

here : (start : ExtendedKey) → at start [] ≡ Some start
unfolding at
here start = refl

onward : (start : ExtendedKey) (i : ℕ) (path : List ℕ) (o : Option ExtendedKey) → child start i ≡ o
    → at start (i ∷ path) ≡ option_and_then (λ next. at next path) o
unfolding at
onward start i path o h = ap (λ o. option_and_then (λ next. at next path) o) h

-- a step of the loop from a key that leads where the start does
pub step : (start key : ExtendedKey) (path : List ℕ) (i : ℕ) (o : Option ExtendedKey) → i < length path
    → at key (drop i path) ≡ at start path → o ≡ child key (get_or path i 0)
    → option_and_then (λ next. at next (drop (i + 1) path)) o ≡ at start path
step start key path i o l h e =
    sym (onward key (get_or path i 0) (drop (i + 1) path) o (sym e)) ∙ sym (at_drop_more (at key) path i 0 l) ∙ h

pub at_end : (start key : ExtendedKey) (path : List ℕ) (i : ℕ) → length path ≤ i
    → at key (drop i path) ≡ at start path → Some key ≡ at start path
at_end start key path i l h = sym (here key) ∙ ap (at key) (sym (drop_all i path l)) ∙ h

-- ---- two paths in a row

pub in_a_row : (start : ExtendedKey) (first second : List ℕ)
    → at start (first ++ second) ≡ option_and_then (λ key. at key second) (at start first)
unfolding at
in_a_row start [] second = refl
in_a_row start (i ∷ first) second = cases (child start i) (λ next. in_a_row next first second)
  where
    cases : (o : Option ExtendedKey)
        → ((next : ExtendedKey) → at next (first ++ second) ≡ option_and_then (λ key. at key second) (at next first))
        → option_and_then (λ next. at next (first ++ second)) o
        ≡ option_and_then (λ key. at key second) (option_and_then (λ next. at next first) o)
    cases None h = refl
    cases (Some next) h = h next

and_then_some : {A : Type 0} (o : Option A) → option_and_then (λ x. Some x) o ≡ o
and_then_some None = refl
and_then_some (Some x) = refl

pub one_step : (start : ExtendedKey) (i : ℕ) → at start (i ∷ []) ≡ child start i
unfolding at
one_step start i = and_then_some (child start i)

-- ---- the last step of a path

abbrev made : ExtendedKey → ℕ → ℕ → ExtendedKey → Node
made parent depth number key = record { key = key; depth = depth; parent = fingerprint parent.key; number = number }

node_at_last : (node : Node) (front : List ℕ) (i : ℕ)
    → node_at node (front ++ i ∷ [])
    ≡ option_and_then (λ parent. child_of parent (node.depth + length front + 1) i) (at node.key front)
unfolding node_at at
node_at_last node [] i =
    let e : node.depth + 1 ≡ node.depth + 0 + 1 = omega arith in
    and_then_some (child_of node.key (node.depth + 1) i) ∙ ap (λ d. child_of node.key d i) e
node_at_last node (j ∷ front) i =
    let e : node.depth + 1 + length front + 1 ≡ node.depth + length (j ∷ front) + 1 = omega arith in
    cases (child node.key j) (λ next. node_at_last (made node.key (node.depth + 1) j next) front i)
    ∙ ap (λ d. option_and_then (λ parent. child_of parent d i) (option_and_then (λ next. at next front) (child node.key j))) e
  where
    cases : (o : Option ExtendedKey)
        → ((next : ExtendedKey) → node_at (made node.key (node.depth + 1) j next) (front ++ i ∷ [])
        ≡ option_and_then (λ parent. child_of parent (node.depth + 1 + length front + 1) i) (at next front))
        → option_and_then (λ next. node_at next (front ++ i ∷ [])) (option_map (made node.key (node.depth + 1) j) o)
        ≡ option_and_then (λ parent. child_of parent (node.depth + 1 + length front + 1) i)
        (option_and_then (λ next. at next front) o)
    cases None h = refl
    cases (Some next) h = h next

pub node_at_path : (master : ExtendedKey) (path front : List ℕ) (last : ℕ) (o : Option ExtendedKey)
    → path ≡ front ++ last ∷ [] → length front + 1 ≡ length path → o ≡ at master front
    → option_and_then (λ parent. child_of parent (length path) last) o ≡ node_at (master_node master) path
node_at_path master path front last o p l h =
    let e : length path ≡ 0 + length front + 1 = omega arith in
    ap (λ o. option_and_then (λ parent. child_of parent (length path) last) o) h
    ∙ ap (λ d. option_and_then (λ parent. child_of parent d last) (at master front)) e
    ∙ sym (node_at_last (master_node master) front last) ∙ ap (node_at (master_node master)) (sym p)

pub node_at_none : (node : Node) (path : List ℕ) → length path ≡ 0 → Some node ≡ node_at node path
unfolding node_at
node_at_none node [] h = refl
node_at_none node (i ∷ path) h = absurd (omega arith)
