-- The halves of a text, while rounds of the cipher are undone.
use Rattle.std.proofs.Common.{◌≡◌, ℕ, ◌/◌, ◌%◌, ◌==◌, ◌<◌, List, ◌++◌, length, take, drop, refl, ap, sym, ◌∙◌, subst, arith}
use Rattle.std.proofs.Common.{Bool, true, false, if◌then◌else◌}
use Rattle.std.proofs.lemmas.List.{take_at, drop_at, length-append, length-take-le, length-drop, take-append-drop}
use Rattle.std.proofs.lemmas.List.Elements.{All-append, All-take, All-drop}
use Rattle.s39_kdf.specs.Bytes.{AreBytes, xor_of}
use Rattle.s39_kdf.specs.Cipher.{round_function}
use Rattle.s39_kdf.specs.declared.params.Params.{Params}
use Rattle.s39_kdf.proofs.Xor.{length-xor_of}
use Rattle.s39_kdf.proofs.Lengths.{length-round_function}
use Rattle.s39_kdf.proofs.ByteValues.{AreBytes-xor_of, AreBytes-round_function}
use Rattle.s39_kdf.proofs.Rounds.{IsEncryption-back}
use Rattle.s39_kdf.specs.Rounds.{IsUndone, joined_halves, RoundsHaveOneUndone, UndoingKeepsLengthAndBytes, UndoneRoundsDecrypt}

-- a list has one pair of halves
same_halves : (a b c d : List ℕ) → length a ≡ length b → length c ≡ length d → a ++ b ≡ c ++ d → (a ≡ c) × (b ≡ d)
same_halves a b c d e f g =
    let n : length a ≡ length c = omega (arith, length-append a b, length-append c d, ap length g) in
    let front : a ≡ c = sym (take_at a b (length c) n) ∙ ap (take (length c)) g ∙ take_at c d (length c) refl in
    let back : b ≡ d = sym (drop_at a b (length c) n) ∙ ap (drop (length c)) g ∙ drop_at c d (length c) refl in
    (front, back)

-- halves, in one order or the other
abbrev either_order : Bool → List ℕ → List ℕ → List ℕ
either_order exchanged left right = if exchanged then right ++ left else left ++ right

length-either : (exchanged : Bool) (left right : List ℕ) → length (either_order exchanged left right) ≡ length (left ++ right)
length-either true left right = omega (arith, length-append left right, length-append right left)
length-either false left right = refl

AreBytes-either : (exchanged : Bool) (left right : List ℕ) → AreBytes left → AreBytes right → AreBytes (either_order exchanged left right)
AreBytes-either true left right l r = All-append (λ byte. byte < 256) right left r l
AreBytes-either false left right l r = All-append (λ byte. byte < 256) left right l r

module _ (passphrase : List ℕ) (params : Params) where
  -- the half before a round changed it
  abbrev before : ℕ → List ℕ → List ℕ → List ℕ
  before i half other = xor_of half (round_function passphrase params i other)

  length-before : (i : ℕ) (half other : List ℕ) → length half ≡ length other → length (before i half other) ≡ length half
  length-before i half other same =
      length-xor_of half (round_function passphrase params i other) (same ∙ sym (length-round_function passphrase params i other))

  -- the halves of what a round other than round 0 gives
  halves_of : (i : ℕ) → (i == 0) ≡ false → (text undone front back : List ℕ) (u : IsUndone passphrase params i text undone)
      → undone ≡ front ++ back → length front ≡ length back → (u.back ≡ front) × (before i u.front u.back ≡ back)
  halves_of i later text undone front back u halves same =
      let x = before i u.front u.back in
      same_halves u.back x front back (sym (length-before i u.front u.back u.same_length ∙ u.same_length)) same
      (ap (λ (exchanged : Bool). either_order exchanged u.back x) (sym later) ∙ sym u.joined ∙ halves)

  -- a text gives at most one when a round is undone
  pub only_undone : (round : ℕ) (text undone other : List ℕ) → IsUndone passphrase params round text undone
      → IsUndone passphrase params round text other → other ≡ undone
  only_undone round text undone other u v =
      let halves = same_halves v.front v.back u.front u.back v.same_length u.same_length (sym v.halves ∙ u.halves) in
      let front = halves.0 in
      let back = halves.1 in
      v.joined ∙ ap (λ (b : List ℕ). joined_halves round b (before round v.front b)) back
      ∙ ap (λ (f : List ℕ). joined_halves round u.back (before round f u.back)) front ∙ sym u.joined

  -- and one of even length gives one
  pub undone_of : (round : ℕ) (text : List ℕ) → length text % 2 ≡ 0 → (undone : List ℕ) × IsUndone passphrase params round text undone
  undone_of round text even =
      let n = length text / 2 in
      let front = take n text in
      let back = drop n text in (
        joined_halves round back (before round front back),
        record {
          front = front;
          back = back;
          halves = sym (take-append-drop n text);
          same_length = length-take-le n text (omega arith) ∙ omega (arith, length-drop n text);
          joined = refl;
        },
      )

pub rounds_have_one_undone : RoundsHaveOneUndone
rounds_have_one_undone passphrase params round text even =
    let made = undone_of passphrase params round text even in
    (made.0, made.1, λ other v. only_undone passphrase params round text made.0 other made.1 v)

pub undoing_keeps_length_and_bytes : UndoingKeepsLengthAndBytes
undoing_keeps_length_and_bytes passphrase params round text undone u =
    let P : List ℕ → Type 0 = AreBytes in
    let x = before passphrase params round u.front u.back in
    let long = length-before passphrase params round u.front u.back u.same_length in
    let either = length-either (round == 0) u.back x in (
      ap length u.joined ∙ either ∙ omega (arith, long, length-append u.back x, length-append u.front u.back, ap length u.halves),
      λ bytes.
          let n = length u.front in
          let front : P u.front = subst P (ap (take n) u.halves ∙ take_at u.front u.back n refl) (All-take (λ byte. byte < 256) n text bytes) in
          let back : P u.back = subst P (ap (drop n) u.halves ∙ drop_at u.front u.back n refl) (All-drop (λ byte. byte < 256) n text bytes) in
          let xored = AreBytes-xor_of u.front (round_function passphrase params round u.back) front (AreBytes-round_function passphrase params round u.back) in
          subst P (sym u.joined) (AreBytes-either (round == 0) u.back x back xored),
    )

pub undone_rounds_decrypt : UndoneRoundsDecrypt
undone_rounds_decrypt passphrase params encrypted third second first secret u3 u2 u1 u0 =
    let at3 = halves_of passphrase params 3 refl encrypted third u2.front u2.back u3 u2.halves u2.same_length in
    let at2 = halves_of passphrase params 2 refl third second u1.front u1.back u2 u1.halves u1.same_length in
    let at1 = halves_of passphrase params 1 refl second first u0.front u0.back u1 u0.halves u0.same_length in
    let h0 = before passphrase params 0 u0.front u0.back in
    IsEncryption-back passphrase params h0 u0.back u1.back u2.back u3.back u3.front u3.same_length
    (sym at3.1)
    (sym at2.1 ∙ ap (λ (h : List ℕ). before passphrase params 2 h u2.back) (sym at3.0))
    (sym at1.1 ∙ ap (λ (h : List ℕ). before passphrase params 1 h u1.back) (sym at2.0))
    (ap (λ (h : List ℕ). before passphrase params 0 h u0.back) (sym at1.0))
    secret encrypted u0.joined u3.halves
