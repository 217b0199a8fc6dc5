-- The lines of secrets.
use Rattle.std.proofs.Common.{◌≡◌, ℕ, ◌<◌, List, [], ◌∷◌, length, length-append, sym, ap, subst, ◌∙◌, inl, inr, arith, Result, Ok}
use Rattle.std.proofs.lemmas.Bool.{cases_lt}
use Rattle.std.proofs.lemmas.List.{get_or_past}
use Rattle.hex.specs.declared.error.FromHexError.{FromHexError}
use Rattle.hex.specs.Hex.{encode_lower, decode_of, IsBytes}
use Rattle.hex.proofs.HexLemmas.{decode_of-encode_lower}
use Rattle.s39_kdf.specs.Bytes.{AreBytes}
use Rattle.s39_backup.proofs.Creations.{same_front}
use Rattle.s39_kdf.specs.declared.secret_form.SecretForm.TheVariants.{Digits}
use Rattle.s39_reading.specs.Recover.{secret_line}

are_bytes : (s : List ℕ) → AreBytes s → IsBytes s
are_bytes s bytes i = elim (cases_lt i (length s)) [
  | inl within ↦ bytes i 0 within
  | inr past ↦ subst (λ (b : ℕ). b < 256) (sym (get_or_past s i 0 past)) (omega arith)
]

same_digits : (s t : List ℕ) → secret_line Digits s ≡ secret_line Digits t → encode_lower s ≡ encode_lower t
same_digits s t same =
    let sizes = ap length same in
    let long : length (encode_lower s) ≡ length (encode_lower t) =
    omega (arith, sizes, length-append (encode_lower s) (10 ∷ []), length-append (encode_lower t) (10 ∷ [])) in
    (same_front (encode_lower s) (encode_lower t) (10 ∷ []) (10 ∷ []) same long).front_is

abbrev decoded : List ℕ → Result (List ℕ) FromHexError
decoded bytes = Ok bytes

-- the line of a secret is that of no other
pub same_secret : (s t : List ℕ) → AreBytes s → AreBytes t → secret_line Digits s ≡ secret_line Digits t → s ≡ t
same_secret s t bytes others same =
    let values : decoded s ≡ decoded t =
    sym (decode_of-encode_lower s (are_bytes s bytes)) ∙ ap decode_of (same_digits s t same)
    ∙ decode_of-encode_lower t (are_bytes t others) in
    cc
