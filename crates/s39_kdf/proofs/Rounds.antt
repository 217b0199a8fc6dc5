-- The rounds of the cipher, run back.
use Rattle.std.proofs.Common.{◌≡◌, ℕ, ◌/◌, ◌%◌, ◌<◌, List, ◌++◌, length, take, drop, refl, ap, sym, ◌∙◌, subst, arith}
use Rattle.std.proofs.lemmas.List.{take_at, drop_at, length-append, length-take-le, length-drop, take-append-drop}
use Rattle.std.proofs.lemmas.List.Elements.{All-append, All-take, All-drop}
use Rattle.s39_kdf.specs.Bytes.{AreBytes, xor_of}
use Rattle.s39_kdf.specs.Cipher.{round_function, IsEncryption, SecretsHaveOneEncryption, TextsHaveOneSecret, EncryptionKeepsLengthAndBytes}
use Rattle.s39_kdf.specs.declared.params.Params.{Params}
use Rattle.s39_kdf.proofs.Xor.{length-xor_of, xor_of-xor_of}
use Rattle.s39_kdf.proofs.Lengths.{length-round_function}
use Rattle.s39_kdf.proofs.ByteValues.{AreBytes-xor_of, AreBytes-round_function}

-- a list has one pair of halves
same_halves : (a b c d : List ℕ) → length a ≡ length b → length c ≡ length d → a ++ b ≡ c ++ d → (a ≡ c) × (b ≡ d)
same_halves a b c d e f g =
    let n : length a ≡ length c = omega (arith, length-append a b, length-append c d, ap length g) in
    let front : a ≡ c = sym (take_at a b (length c) n) ∙ ap (take (length c)) g ∙ take_at c d (length c) refl in
    let back : b ≡ d = sym (drop_at a b (length c) n) ∙ ap (drop (length c)) g ∙ drop_at c d (length c) refl in
    (front, back)

module _ (passphrase : List ℕ) (params : Params) where
  -- the half that a round makes of the half before it and the other half
  abbrev next : ℕ → List ℕ → List ℕ → List ℕ
  next i half other = xor_of half (round_function passphrase params i other)

  -- a round keeps the length
  length-next : (i : ℕ) (half other : List ℕ) → length half ≡ length other → length (next i half other) ≡ length half
  length-next i half other same =
      length-xor_of half (round_function passphrase params i other) (same ∙ sym (length-round_function passphrase params i other))

  -- a round is undone by the same step
  next-next : (i : ℕ) (half other : List ℕ) → length half ≡ length other → next i (next i half other) other ≡ half
  next-next i half other same =
      xor_of-xor_of half (round_function passphrase params i other) (same ∙ sym (length-round_function passphrase params i other))

  -- rounds 3 to 0 on the halves of a text give the secret that it encrypts
  pub IsEncryption-back : (h0 h1 h2 h3 h4 h5 : List ℕ) → length h5 ≡ length h4
      → h3 ≡ next 3 h5 h4 → h2 ≡ next 2 h4 h3 → h1 ≡ next 1 h3 h2 → h0 ≡ next 0 h2 h1
      → (secret result : List ℕ) → secret ≡ h0 ++ h1 → result ≡ h5 ++ h4 → IsEncryption secret passphrase params result
  IsEncryption-back h0 h1 h2 h3 h4 h5 same e3 e2 e1 e0 secret result s r =
      let long3 : length h3 ≡ length h4 = ap length e3 ∙ length-next 3 h5 h4 same ∙ same in
      let long2 : length h2 ≡ length h3 = ap length e2 ∙ length-next 2 h4 h3 (sym long3) ∙ sym long3 in
      let long1 : length h1 ≡ length h2 = ap length e1 ∙ length-next 1 h3 h2 (sym long2) ∙ sym long2 in
      let long0 : length h0 ≡ length h1 = ap length e0 ∙ length-next 0 h2 h1 (sym long1) ∙ sym long1 in
      record {
        h0 = h0;
        h1 = h1;
        h2 = h2;
        h3 = h3;
        h4 = h4;
        h5 = h5;
        halves = s;
        same_length = long0;
        round_0 = sym (ap (λ h. next 0 h h1) e0 ∙ next-next 0 h2 h1 (sym long1));
        round_1 = sym (ap (λ h. next 1 h h2) e1 ∙ next-next 1 h3 h2 (sym long2));
        round_2 = sym (ap (λ h. next 2 h h3) e2 ∙ next-next 2 h4 h3 (sym long3));
        round_3 = sym (ap (λ h. next 3 h h4) e3 ∙ next-next 3 h5 h4 same);
        exchanged = r;
      }

  -- the halves of an encryption, from the last to the first
  record IsRunBack (h0 h1 h2 h3 h4 h5 : List ℕ) : Type 0 where
    back_3 : h3 ≡ next 3 h5 h4
    back_2 : h2 ≡ next 2 h4 h3
    back_1 : h1 ≡ next 1 h3 h2
    back_0 : h0 ≡ next 0 h2 h1
    same_length : length h5 ≡ length h4

  -- each encryption can be run back
  IsRunBack-halves : (secret result : List ℕ) (e : IsEncryption secret passphrase params result)
      → IsRunBack e.h0 e.h1 e.h2 e.h3 e.h4 e.h5
  IsRunBack-halves secret result e =
      let long2 : length e.h2 ≡ length e.h1 = ap length e.round_0 ∙ length-next 0 e.h0 e.h1 e.same_length ∙ e.same_length in
      let long3 : length e.h3 ≡ length e.h2 = ap length e.round_1 ∙ length-next 1 e.h1 e.h2 (sym long2) ∙ sym long2 in
      let long4 : length e.h4 ≡ length e.h3 = ap length e.round_2 ∙ length-next 2 e.h2 e.h3 (sym long3) ∙ sym long3 in
      let long5 : length e.h5 ≡ length e.h4 = ap length e.round_3 ∙ length-next 3 e.h3 e.h4 (sym long4) ∙ sym long4 in
      record {
        back_3 = sym (ap (λ h. next 3 h e.h4) e.round_3 ∙ next-next 3 e.h3 e.h4 (sym long4));
        back_2 = sym (ap (λ h. next 2 h e.h3) e.round_2 ∙ next-next 2 e.h2 e.h3 (sym long3));
        back_1 = sym (ap (λ h. next 1 h e.h2) e.round_1 ∙ next-next 1 e.h1 e.h2 (sym long2));
        back_0 = sym (ap (λ h. next 0 h e.h1) e.round_0 ∙ next-next 0 e.h0 e.h1 e.same_length);
        same_length = long5;
      }

  -- two secrets with one encryption are one
  pub secret_only : (secret other result : List ℕ) → IsEncryption secret passphrase params result
      → IsEncryption other passphrase params result → secret ≡ other
  secret_only secret other result e f =
      let runs_e = IsRunBack-halves secret result e in
      let runs_f = IsRunBack-halves other result f in
      let ends = same_halves e.h5 e.h4 f.h5 f.h4 runs_e.same_length runs_f.same_length (sym e.exchanged ∙ f.exchanged) in
      let h5 = ends.0 in
      let h4 = ends.1 in
      cc

  -- two encryptions of one secret are one
  pub result_only : (secret result other : List ℕ) → IsEncryption secret passphrase params result
      → IsEncryption secret passphrase params other → result ≡ other
  result_only secret result other e f =
      let ends = same_halves e.h0 e.h1 f.h0 f.h1 e.same_length f.same_length (sym e.halves ∙ f.halves) in
      let h0 = ends.0 in
      let h1 = ends.1 in
      cc

  -- bytes stay bytes in a round
  AreBytes-next : (i : ℕ) (half other : List ℕ) → AreBytes half → AreBytes (next i half other)
  AreBytes-next i half other bytes =
      AreBytes-xor_of half (round_function passphrase params i other) bytes (AreBytes-round_function passphrase params i other)

  -- a secret's halves encrypt to the halves that the rounds give
  rounds_encrypt : (h0 h1 : List ℕ) → length h0 ≡ length h1 → (secret : List ℕ) → secret ≡ h0 ++ h1
      → (result : List ℕ) × IsEncryption secret passphrase params result
  rounds_encrypt h0 h1 same secret halves =
      let h2 = next 0 h0 h1 in
      let h3 = next 1 h1 h2 in
      let h4 = next 2 h2 h3 in
      let h5 = next 3 h3 h4 in (
        h5 ++ h4,
        record {
          h0 = h0;
          h1 = h1;
          h2 = h2;
          h3 = h3;
          h4 = h4;
          h5 = h5;
          halves = halves;
          same_length = same;
          round_0 = refl;
          round_1 = refl;
          round_2 = refl;
          round_3 = refl;
          exchanged = refl;
        },
      )

  -- and a text's halves are the encryption of the halves that the rounds give, run back
  rounds_decrypt : (h5 h4 : List ℕ) → length h5 ≡ length h4 → (result : List ℕ) → result ≡ h5 ++ h4
      → (secret : List ℕ) × IsEncryption secret passphrase params result
  rounds_decrypt h5 h4 same result halves =
      let h3 = next 3 h5 h4 in
      let h2 = next 2 h4 h3 in
      let h1 = next 1 h3 h2 in
      let h0 = next 0 h2 h1 in
      (h0 ++ h1, IsEncryption-back h0 h1 h2 h3 h4 h5 same refl refl refl refl (h0 ++ h1) result refl halves)

  -- the lengths of the halves
  record HaveLength (secret result : List ℕ) (e : IsEncryption secret passphrase params result) : Type 0 where
    in_2 : length e.h2 ≡ length e.h0
    in_3 : length e.h3 ≡ length e.h1
    in_4 : length e.h4 ≡ length e.h2
    in_5 : length e.h5 ≡ length e.h3

  lengths : (secret result : List ℕ) (e : IsEncryption secret passphrase params result) → HaveLength secret result e
  lengths secret result e =
      let l2 : length e.h2 ≡ length e.h0 = ap length e.round_0 ∙ length-next 0 e.h0 e.h1 e.same_length in
      let l3 : length e.h3 ≡ length e.h1 = ap length e.round_1 ∙ length-next 1 e.h1 e.h2 (sym (l2 ∙ e.same_length)) in
      let l4 : length e.h4 ≡ length e.h2 = ap length e.round_2 ∙ length-next 2 e.h2 e.h3 (l2 ∙ e.same_length ∙ sym l3) in
      let l5 : length e.h5 ≡ length e.h3 = ap length e.round_3 ∙ length-next 3 e.h3 e.h4 (l3 ∙ sym (l4 ∙ l2 ∙ e.same_length)) in
      record {
        in_2 = l2;
        in_3 = l3;
        in_4 = l4;
        in_5 = l5;
      }

-- the parts of a list of bytes
AreBytes-parts : (xs ys zs : List ℕ) → zs ≡ xs ++ ys → AreBytes zs → AreBytes xs × AreBytes ys
AreBytes-parts xs ys zs whole bytes =
    let P : List ℕ → Type 0 = AreBytes in (
      subst P (ap (take (length xs)) whole ∙ take_at xs ys (length xs) refl) (All-take (λ byte. byte < 256) (length xs) zs bytes),
      subst P (ap (drop (length xs)) whole ∙ drop_at xs ys (length xs) refl) (All-drop (λ byte. byte < 256) (length xs) zs bytes),
    )

-- the halves of a list of an even number of bytes
halved : (bytes : List ℕ) → length bytes % 2 ≡ 0
    → (length (take (length bytes / 2) bytes) ≡ length (drop (length bytes / 2) bytes))
    × (bytes ≡ take (length bytes / 2) bytes ++ drop (length bytes / 2) bytes)
halved bytes even =
    let n = length bytes / 2 in (
      length-take-le n bytes (omega arith) ∙ omega (arith, length-drop n bytes),
      sym (take-append-drop n bytes),
    )

pub secrets_have_one_encryption : SecretsHaveOneEncryption
secrets_have_one_encryption passphrase params secret even =
    let halves = halved secret even in
    let made = rounds_encrypt passphrase params (take (length secret / 2) secret) (drop (length secret / 2) secret) halves.0 secret halves.1 in
    (made.0, made.1, λ other e. result_only passphrase params secret other made.0 e made.1)

pub texts_have_one_secret : TextsHaveOneSecret
texts_have_one_secret passphrase params result even =
    let halves = halved result even in
    let made = rounds_decrypt passphrase params (take (length result / 2) result) (drop (length result / 2) result) halves.0 result halves.1 in
    (made.0, made.1, λ other e. secret_only passphrase params other made.0 result e made.1)

pub encryption_keeps_length_and_bytes : EncryptionKeepsLengthAndBytes
encryption_keeps_length_and_bytes passphrase params secret result e =
    let P : List ℕ → Type 0 = AreBytes in
    let l = lengths passphrase params secret result e in
    let back = IsRunBack-halves passphrase params secret result e in (
      omega (arith, l, ap length e.exchanged, ap length e.halves, length-append e.h5 e.h4, length-append e.h0 e.h1),
      λ bytes.
          let parts = AreBytes-parts e.h0 e.h1 secret e.halves bytes in
          let b2 : P e.h2 = subst P (sym e.round_0) (AreBytes-next passphrase params 0 e.h0 e.h1 parts.0) in
          let b3 : P e.h3 = subst P (sym e.round_1) (AreBytes-next passphrase params 1 e.h1 e.h2 parts.1) in
          let b4 : P e.h4 = subst P (sym e.round_2) (AreBytes-next passphrase params 2 e.h2 e.h3 b2) in
          let b5 : P e.h5 = subst P (sym e.round_3) (AreBytes-next passphrase params 3 e.h3 e.h4 b3) in
          subst P (sym e.exchanged) (All-append (λ byte. byte < 256) e.h5 e.h4 b5 b4),
      λ bytes.
          let parts = AreBytes-parts e.h5 e.h4 result e.exchanged bytes in
          let b3 : P e.h3 = subst P (sym back.back_3) (AreBytes-next passphrase params 3 e.h5 e.h4 parts.0) in
          let b2 : P e.h2 = subst P (sym back.back_2) (AreBytes-next passphrase params 2 e.h4 e.h3 parts.1) in
          let b1 : P e.h1 = subst P (sym back.back_1) (AreBytes-next passphrase params 1 e.h3 e.h2 b3) in
          let b0 : P e.h0 = subst P (sym back.back_0) (AreBytes-next passphrase params 0 e.h2 e.h1 b2) in
          subst P (sym e.halves) (All-append (λ byte. byte < 256) e.h0 e.h1 b0 b1),
    )
