-- Polynomials modulo a number, as sorted lists of terms: two expressions with one list have equal values.
use Rattle.std.proofs.Common.{◌≡◌, ℕ, zero, suc, ◌+◌, ◌*◌, ◌-◌, ◌%◌, ◌^◌, ◌<◌, List, [], ◌∷◌, Bool, true, false, eqb, ltb}
use Rattle.std.proofs.Common.{refl, sym, ap, ap₂, ◌∙◌, arith, lit<}
use Rattle.curve_field.specs.Field.{prime}
use Rattle.std.proofs.lemmas.Bool.{eqb-true}
use Rattle.std.proofs.lemmas.Nat.{pow-add, mul-mod, mul-mod_first}
use Rattle.std.proofs.Math.Nat.{add-mod, add-mod-mod, mod-mod, mod-lt, mod-eq_of_lt, pow-suc, pow-zero, add-mul-mod_self_left, mod_self, zero-mod}

pub data Expression : Type 0 where
  var : ℕ → Expression
  num : ℕ → Expression
  plus : Expression → Expression → Expression
  times : Expression → Expression → Expression
  less : Expression → Expression → Expression

pub data Term : Type 0 where
  term : ℕ → List ℕ → Term

pub data Order : Type 0 where
  before : Order
  same : Order
  after : Order

-- ---- values

abbrev pub at : List ℕ → ℕ → ℕ
at [] i = 1
at (x ∷ xs) zero = x
at (x ∷ xs) (suc i) = at xs i

abbrev pub eval : ℕ → List ℕ → Expression → ℕ
eval m v (var i) = at v i
eval m v (num n) = n % m
eval m v (plus a b) = (eval m v a + eval m v b) % m
eval m v (times a b) = (eval m v a * eval m v b) % m
eval m v (less a b) = (eval m v a + (m - eval m v b)) % m

abbrev pub monomial : List ℕ → List ℕ → ℕ
monomial v [] = 1
monomial [] (e ∷ es) = 1
monomial (x ∷ xs) (e ∷ es) = x ^ e * monomial xs es

abbrev pub value : List ℕ → List Term → ℕ
value v [] = 0
value v (term c e ∷ p) = c * monomial v e + value v p

abbrev pub AllBelow : ℕ → List ℕ → Type 0
AllBelow m [] = Unit
AllBelow m (x ∷ xs) = (x < m) × AllBelow m xs

-- ---- normal forms

abbrev pub sum_of_exponents : List ℕ → List ℕ → List ℕ
sum_of_exponents [] bs = bs
sum_of_exponents (a ∷ as') [] = a ∷ as'
sum_of_exponents (a ∷ as') (b ∷ bs) = (a + b) ∷ sum_of_exponents as' bs

abbrev pub unit : ℕ → List ℕ
unit zero = 1 ∷ []
unit (suc i) = 0 ∷ unit i

abbrev pub order : List ℕ → List ℕ → Order
order [] [] = same
order [] (b ∷ bs) = before
order (a ∷ as') [] = after
order (a ∷ as') (b ∷ bs) = elim (eqb a b) [ true ↦ order as' bs | false ↦ elim (ltb a b) [ true ↦ before | false ↦ after ] ]

abbrev pub joined : ℕ → List ℕ → List Term → List Term
joined zero e p = p
joined (suc c) e p = term (suc c) e ∷ p

abbrev pub insert : ℕ → ℕ → List ℕ → List Term → List Term
insert m c e [] = joined c e []
insert m c e (term d f ∷ p) = elim (order e f) [
  | before ↦ joined c e (term d f ∷ p)
  | same ↦ joined ((c + d) % m) f p
  | after ↦ term d f ∷ insert m c e p
]

abbrev pub add : ℕ → List Term → List Term → List Term
add m [] q = q
add m (term c e ∷ p) q = insert m c e (add m p q)

abbrev pub multiply_term : ℕ → ℕ → List ℕ → List Term → List Term → List Term
multiply_term m c e [] r = r
multiply_term m c e (term d f ∷ q) r = insert m ((c * d) % m) (sum_of_exponents e f) (multiply_term m c e q r)

abbrev pub multiply : ℕ → List Term → List Term → List Term
multiply m [] q = []
multiply m (term c e ∷ p) q = multiply_term m c e q (multiply m p q)

abbrev pub normal : ℕ → Expression → List Term
normal m (var i) = term 1 (unit i) ∷ []
normal m (num n) = joined (n % m) [] []
normal m (plus a b) = add m (normal m a) (normal m b)
normal m (times a b) = multiply m (normal m a) (normal m b)
normal m (less a b) = multiply_term m (m - 1) [] (normal m b) (normal m a)

-- ---- what they keep

shuffle : (p q a b : ℕ) → (p * q) * (a * b) ≡ (p * a) * (q * b)
shuffle p q a b = omega arith

monomial-sum : (v a b : List ℕ) → monomial v (sum_of_exponents a b) ≡ monomial v a * monomial v b
monomial-sum v [] b = omega arith
monomial-sum v (a ∷ as') [] = omega arith
monomial-sum [] (a ∷ as') (b ∷ bs) = refl
monomial-sum (x ∷ xs) (a ∷ as') (b ∷ bs) =
    ap₂ (λ p q. p * q) (pow-add x a b) (monomial-sum xs as' bs)
    ∙ shuffle (x ^ a) (x ^ b) (monomial xs as') (monomial xs bs)

first-power : (a : ℕ) → a ^ 1 ≡ a
first-power a = pow-suc a 0 ∙ rw (pow-zero a) (omega arith)

monomial-unit : (v : List ℕ) (i : ℕ) → monomial v (unit i) ≡ at v i
monomial-unit [] zero = refl
monomial-unit [] (suc i) = refl
monomial-unit (x ∷ xs) zero = omega (arith, first-power x)
monomial-unit (x ∷ xs) (suc i) = rw (pow-zero x) (omega (arith, monomial-unit xs i))

not-same : (t : Bool) → (elim t [ true ↦ before | false ↦ after ]) ≡ same → ⊥
not-same true h = cc
not-same false h = cc

order-same : (a b : List ℕ) → order a b ≡ same → a ≡ b
order-same [] [] h = refl
order-same [] (b ∷ bs) h = absurd (cc)
order-same (a ∷ as') [] h = absurd (cc)
order-same (a ∷ as') (b ∷ bs) h = heads (eqb a b) refl (order-same as' bs) h
  where
    heads : (t : Bool) → eqb a b ≡ t → (order as' bs ≡ same → as' ≡ bs)
        → (elim t [ true ↦ order as' bs | false ↦ elim (ltb a b) [ true ↦ before | false ↦ after ] ]) ≡ same → a ∷ as' ≡ b ∷ bs
    heads true e k g = ap₂ (λ i is. i ∷ is) (eqb-true a b e) (k g)
    heads false e k g = absurd (not-same (ltb a b) g)

-- ---- sums and products modulo m

plus_right : (m k a b : ℕ) → a % m ≡ b % m → (k + a) % m ≡ (k + b) % m
plus_right m k a b h = sym (add-mod-mod k a m) ∙ ap (λ x. (k + x) % m) h ∙ add-mod-mod k b m

plus_both : (m a b c d : ℕ) → a % m ≡ b % m → c % m ≡ d % m → (a + c) % m ≡ (b + d) % m
plus_both m a b c d h k = add-mod a c m ∙ ap₂ (λ x y. (x + y) % m) h k ∙ sym (add-mod b d m)

pub times_both : (m a b c d : ℕ) → a % m ≡ b % m → c % m ≡ d % m → (a * c) % m ≡ (b * d) % m
times_both m a b c d h k = mul-mod a c m ∙ ap₂ (λ x y. (x * y) % m) h k ∙ sym (mul-mod b d m)

pub reordered : (m : ℕ) {a b : ℕ} → a ≡ b → a % m ≡ b % m
reordered m e = ap (λ x. x % m) e

-- ---- the operations keep the value

joined-value : (v : List ℕ) (c : ℕ) (e : List ℕ) (p : List Term) → value v (joined c e p) ≡ c * monomial v e + value v p
joined-value v zero e p = omega arith
joined-value v (suc c) e p = refl

at_one_place : (m c d k r : ℕ) → ((c + d) % m * k + r) % m ≡ (c * k + (d * k + r)) % m
at_one_place m c d k r =
    plus_both m ((c + d) % m * k) ((c + d) * k) r r (mul-mod_first (c + d) k m) refl
    ∙ reordered m (omega arith)

insert-value : (m : ℕ) (v : List ℕ) (c : ℕ) (e : List ℕ) (p : List Term)
    → value v (insert m c e p) % m ≡ (c * monomial v e + value v p) % m
insert-value m v c e [] = reordered m (joined-value v c e [])
insert-value m v c e (term d f ∷ p) = cases (order e f) refl (insert-value m v c e p)
  where
    cases : (o : Order) → order e f ≡ o → value v (insert m c e p) % m ≡ (c * monomial v e + value v p) % m
        → value v (elim o [
          | before ↦ joined c e (term d f ∷ p)
          | same ↦ joined ((c + d) % m) f p
          | after ↦ term d f ∷ insert m c e p
        ]) % m ≡ (c * monomial v e + (d * monomial v f + value v p)) % m
    cases before q h = reordered m (joined-value v c e (term d f ∷ p))
    cases same q h =
        reordered m (joined-value v ((c + d) % m) f p)
        ∙ at_one_place m c d (monomial v f) (value v p)
        ∙ ap (λ g. (c * monomial v g + (d * monomial v f + value v p)) % m) (sym (order-same e f q))
    cases after q h =
        plus_right m (d * monomial v f) (value v (insert m c e p)) (c * monomial v e + value v p) h
        ∙ reordered m (omega arith)

add-value : (m : ℕ) (v : List ℕ) (p q : List Term) → value v (add m p q) % m ≡ (value v p + value v q) % m
add-value m v [] q = reordered m (omega arith)
add-value m v (term c e ∷ p) q =
    insert-value m v c e (add m p q)
    ∙ plus_right m (c * monomial v e) (value v (add m p q)) (value v p + value v q) (add-value m v p q)
    ∙ reordered m (omega arith)

spread : (c d e f q r : ℕ) → c * d * (e * f) + (c * e * q + r) ≡ c * e * (d * f + q) + r
spread c d e f q r = omega arith

multiply_term-value : (m : ℕ) (v : List ℕ) (c : ℕ) (e : List ℕ) (q r : List Term)
    → value v (multiply_term m c e q r) % m ≡ (c * monomial v e * value v q + value v r) % m
multiply_term-value m v c e [] r = reordered m (omega arith)
multiply_term-value m v c e (term d f ∷ q) r =
    let rest = multiply_term m c e q r in
    insert-value m v ((c * d) % m) (sum_of_exponents e f) rest
    ∙ plus_both m ((c * d) % m * monomial v (sum_of_exponents e f)) (c * d * (monomial v e * monomial v f))
    (value v rest) (c * monomial v e * value v q + value v r)
    (mul-mod_first (c * d) (monomial v (sum_of_exponents e f)) m ∙ ap (λ k. (c * d * k) % m) (monomial-sum v e f))
    (multiply_term-value m v c e q r)
    ∙ reordered m (spread c d (monomial v e) (monomial v f) (value v q) (value v r))

multiply-value : (m : ℕ) (v : List ℕ) (p q : List Term) → value v (multiply m p q) % m ≡ (value v p * value v q) % m
multiply-value m v [] q = reordered m (omega arith)
multiply-value m v (term c e ∷ p) q =
    multiply_term-value m v c e q (multiply m p q)
    ∙ plus_right m (c * monomial v e * value v q) (value v (multiply m p q)) (value v p * value v q) (multiply-value m v p q)
    ∙ reordered m (omega arith)

-- ---- expressions

at-below : (m : ℕ) (v : List ℕ) (i : ℕ) → 1 < m → AllBelow m v → at v i < m
at-below m [] i h b = h
at-below m (x ∷ xs) zero h b = b.0
at-below m (x ∷ xs) (suc i) h b = at-below m xs i h b.1

pub eval-below : (m : ℕ) (v : List ℕ) (e : Expression) → 1 < m → AllBelow m v → eval m v e < m
eval-below m v (var i) h b = at-below m v i h b
eval-below m v (num n) h b = mod-lt n (omega arith)
eval-below m v (plus c d) h b = mod-lt _ (omega arith)
eval-below m v (times c d) h b = mod-lt _ (omega arith)
eval-below m v (less c d) h b = mod-lt _ (omega arith)

negated : (m b : ℕ) → 1 < m → b < m → (m - b) % m ≡ ((m - 1) * b) % m
negated zero b h l = absurd (omega arith)
negated (suc k) zero h l = reordered (suc k) (omega arith) ∙ mod_self (suc k) ∙ sym (zero-mod (suc k)) ∙ reordered (suc k) (omega arith)
negated (suc k) (suc b) h l =
    let one_less : k ≡ suc k - 1 = omega arith in
    let moved : suc k - suc b + suc k * b ≡ k * suc b = omega arith in
    sym (add-mul-mod_self_left (suc k - suc b) (suc k) b)
    ∙ reordered (suc k) moved
    ∙ ap (λ x. (x * suc b) % suc k) one_less

normal-value : (m : ℕ) (v : List ℕ) (e : Expression) → 1 < m → AllBelow m v
    → eval m v e % m ≡ value v (normal m e) % m
normal-value m v (var i) h b = reordered m (omega (arith, monomial-unit v i))
normal-value m v (num n) h b = reordered m (omega (arith, joined-value v (n % m) [] []))
normal-value m v (plus c d) h b =
    mod-mod (eval m v c + eval m v d) m
    ∙ plus_both m (eval m v c) (value v (normal m c)) (eval m v d) (value v (normal m d)) (normal-value m v c h b) (normal-value m v d h b)
    ∙ sym (add-value m v (normal m c) (normal m d))
normal-value m v (times c d) h b =
    mod-mod (eval m v c * eval m v d) m
    ∙ times_both m (eval m v c) (value v (normal m c)) (eval m v d) (value v (normal m d)) (normal-value m v c h b) (normal-value m v d h b)
    ∙ sym (multiply-value m v (normal m c) (normal m d))
normal-value m v (less c d) h b =
    mod-mod (eval m v c + (m - eval m v d)) m
    ∙ plus_both m (eval m v c) (value v (normal m c)) (m - eval m v d) ((m - 1) * value v (normal m d))
    (normal-value m v c h b)
    (negated m (eval m v d) h (eval-below m v d h b)
    ∙ times_both m (m - 1) (m - 1) (eval m v d) (value v (normal m d)) refl (normal-value m v d h b))
    ∙ reordered m (omega arith)
    ∙ sym (multiply_term-value m v (m - 1) [] (normal m d) (normal m c))

-- Two expressions with one normal form have equal values.
pub same_values : (m : ℕ) (v : List ℕ) (c d : Expression) → 1 < m → AllBelow m v → normal m c ≡ normal m d
    → eval m v c ≡ eval m v d
same_values m v c d h b e =
    sym (mod-eq_of_lt (eval-below m v c h b))
    ∙ normal-value m v c h b
    ∙ ap (λ p. value v p % m) e
    ∙ sym (normal-value m v d h b)
    ∙ mod-eq_of_lt (eval-below m v d h b)

-- ---- equations as premises

cancel : (l r k : ℕ) → l < prime → r < prime → k < prime → (l + k) % prime ≡ (r + k) % prime → l ≡ r
cancel l r k p q s h = omega arith

-- Two expressions have equal values if they have one normal form once the same multiple of the two sides of an equation is added.
pub combined : (v : List ℕ) (l r c a b : Expression) → AllBelow prime v → eval prime v a ≡ eval prime v b
    → normal prime (plus l (times c a)) ≡ normal prime (plus r (times c b)) → eval prime v l ≡ eval prime v r
combined v l r c a b h e n =
    let one : 1 < prime = lit< tt in
    let sums = same_values prime v (plus l (times c a)) (plus r (times c b)) one h n in
    cancel (eval prime v l) (eval prime v r) (eval prime v (times c b))
    (eval-below prime v l one h) (eval-below prime v r one h) (eval-below prime v (times c b) one h)
    (ap (λ x. (eval prime v l + (eval prime v c * x) % prime) % prime) (sym e) ∙ sums)
