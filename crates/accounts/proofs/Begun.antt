-- One more letter of how a text begins.
use Rattle.std.proofs.Common.{◌≡◌, ◌≢◌, ℕ, suc, ◌+◌, ◌<◌, ◌≤◌, true, false, nat_eq, ◌&&◌, List, length, drop, get_or, sym, ap, ap₂, ◌∙◌, arith, add-one, drop-cons}
use Rattle.std.specs.Char.{to_ascii_lowercase}
use Rattle.std.specs.Str.{str_to_ascii_lowercase}
use Rattle.std.proofs.lemmas.Bool.{eq-eqb, ne_eqb}
use Rattle.std.proofs.lemmas.List.{drop_all, length-map, get_or-map}
use Rattle.accounts.specs.Shown.{begins}

-- a letter in front of the rest of the text
turn : (front text : List ℕ) (i : ℕ) → i < length front → i < length text
    → begins (drop i front) (drop i (str_to_ascii_lowercase text))
    ≡ (nat_eq (to_ascii_lowercase (get_or text i 0)) (get_or front i 0) && begins (drop (suc i) front) (drop (suc i) (str_to_ascii_lowercase text)))
turn front text i l k =
    let lower = str_to_ascii_lowercase text in
    let within : i < length lower = omega (arith, length-map text to_ascii_lowercase) in
    ap₂ (λ a b. begins a b) (drop-cons front i 0 l) (drop-cons lower i 0 within)
    ∙ ap (λ c. nat_eq c (get_or front i 0) && begins (drop (suc i) front) (drop (suc i) lower)) (get_or-map to_ascii_lowercase text i 0 0 k)

pub same : (front text : List ℕ) (i c : ℕ) → i < length front → i < length text → c ≡ to_ascii_lowercase (get_or text i 0) → c ≡ get_or front i 0
    → begins (drop (i + 1) front) (drop (i + 1) (str_to_ascii_lowercase text)) ≡ begins (drop i front) (drop i (str_to_ascii_lowercase text))
same front text i c l k e f =
    let lower = str_to_ascii_lowercase text in
    let rest = begins (drop (suc i) front) (drop (suc i) lower) in
    ap (λ j. begins (drop j front) (drop j lower)) (add-one i)
    ∙ sym (turn front text i l k ∙ ap (λ t. t && rest) (eq-eqb (to_ascii_lowercase (get_or text i 0)) (get_or front i 0) (sym e ∙ f)))

pub other : (front text : List ℕ) (i c : ℕ) → i < length front → i < length text → c ≡ to_ascii_lowercase (get_or text i 0) → c ≢ get_or front i 0
    → begins (drop i front) (drop i (str_to_ascii_lowercase text)) ≡ false
other front text i c l k e f =
    let rest = begins (drop (suc i) front) (drop (suc i) (str_to_ascii_lowercase text)) in
    turn front text i l k
    ∙ ap (λ t. t && rest) (ne_eqb (to_ascii_lowercase (get_or text i 0)) (get_or front i 0) (λ g. f (e ∙ g)))

pub short : (front text : List ℕ) (i : ℕ) → i < length front → length text ≤ i
    → begins (drop i front) (drop i (str_to_ascii_lowercase text)) ≡ false
short front text i l k =
    let lower = str_to_ascii_lowercase text in
    ap₂ (λ a b. begins a b) (drop-cons front i 0 l) (drop_all i lower (omega (arith, length-map text to_ascii_lowercase)))

pub over : (front text : List ℕ) (i : ℕ) → length front ≤ i → begins (drop i front) (drop i (str_to_ascii_lowercase text)) ≡ true
over front text i l = ap (λ a. begins a (drop i (str_to_ascii_lowercase text))) (drop_all i front l)
