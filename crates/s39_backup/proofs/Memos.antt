-- What a memo keeps.
use Rattle.std.proofs.Common.{◌≡◌, ◌≢◌, ℕ, ◌-◌, ◌<◌, List, [], ◌∷◌, ◌++◌, length, get_or, map, All, Contains, sym, ap, ap₂, ◌∙◌, arith}
use Rattle.std.proofs.lemmas.List.{length-map, get_or-map}
use Rattle.std.proofs.lemmas.List.Elements.{All-drop, All-push}
use Rattle.s39_kdf.specs.declared.params.Params.{Params}
use Rattle.s39_kdf.specs.Cipher.{IsEncryption}
use Rattle.s39_backup.specs.declared.memo.Deciphered.{Deciphered}
use Rattle.s39_backup.specs.Memo.{most_kept, newest, AreDeciphered, entries_of}

-- a value that nothing was deciphered of isn't among those that are kept
pub not_among : (kept : List Deciphered) (b : List ℕ) → All (λ entry. entry.encrypted.items ≢ b) kept → Contains (map (λ entry. entry.0) (entries_of kept)) b
    → ⊥
not_among kept b none (k, below, here) =
    let blank : Deciphered = record { encrypted = record { items = [] }; secret = record { items = [] } } in
    let no_entry : List ℕ × List ℕ = (b, []) in
    let pairs : length (entries_of kept) ≡ length kept = length-map {B = List ℕ × List ℕ} kept (λ entry. (entry.encrypted.items, entry.secret.items)) in
    let firsts : length (map (λ entry. entry.0) (entries_of kept)) ≡ length (entries_of kept) = length-map (entries_of kept) (λ entry. entry.0) in
    let outer = get_or-map (λ entry. entry.0) (entries_of kept) k no_entry b (omega arith) in
    let inner = get_or-map {Y = List ℕ × List ℕ} (λ entry. (entry.encrypted.items, entry.secret.items)) kept k blank no_entry (omega arith) in
    none k blank (omega arith) (sym (ap (λ p. p.0) inner) ∙ sym outer ∙ here)

-- what was deciphered of a value is among the entries
pub found_entry : (kept : List Deciphered) (k : ℕ) (d : Deciphered) (encrypted secret : List ℕ) → k < length kept
    → (get_or kept k d).encrypted.items ≡ encrypted → (get_or kept k d).secret.items ≡ secret → Contains (entries_of kept) (encrypted, secret)
found_entry kept k d encrypted secret within first second =
    let entry : List ℕ × List ℕ = (encrypted, secret) in (
      k,
      omega (arith, length-map {B = List ℕ × List ℕ} kept (λ entry. (entry.encrypted.items, entry.secret.items))),
      get_or-map {Y = List ℕ × List ℕ} (λ entry. (entry.encrypted.items, entry.secret.items)) kept k d entry within
          ∙ ap₂ (λ (x y : List ℕ). (x, y)) first second,
    )

-- one more stays right
pub newest-deciphered : (passphrase : List ℕ) (params : Params) (entries : List (List ℕ × List ℕ)) (encrypted secret : List ℕ)
    → AreDeciphered passphrase params entries → IsEncryption secret passphrase params encrypted
    → AreDeciphered passphrase params (newest (entries ++ (encrypted, secret) ∷ []))
newest-deciphered passphrase params entries encrypted secret all one =
    All-drop (λ entry. IsEncryption entry.1 passphrase params entry.0) (length (entries ++ (encrypted, secret) ∷ []) - most_kept)
    (entries ++ (encrypted, secret) ∷ [])
    (All-push (λ entry. IsEncryption entry.1 passphrase params entry.0) entries (encrypted, secret) all one)
