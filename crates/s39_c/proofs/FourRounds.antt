-- What is decrypted of one round is given in one way, and there is such a way. Four rounds are a decryption.
use Rattle.std.proofs.Common.{◌≡◌, ◌↔◌, ℕ, ◌<◌, ◌≤◌, List, [], length, take, drop, refl, sym, ap, ◌∙◌, subst, inl, inr, arith}
use Rattle.std.proofs.Common.{All, Some, None, Result, Ok, Err}
use Rattle.std.proofs.lemmas.Bool.{cases_lt}
use Rattle.std.proofs.lemmas.List.{take-append-le, take_all}
use Rattle.s39_kdf.specs.Limits.{IsPrintable, IsSecretLength}
use Rattle.s39_kdf.specs.Passphrases.{PrintablePassphrasesHaveNone}
use Rattle.s39_kdf.specs.declared.params.Params.{Params}
use Rattle.s39_input.proofs.Steps.{AtMostOne, AtLeastOne}
use Rattle.s39_input.specs.Steps.{gives, refuses}
use Rattle.s39_input.specs.declared.fault.Fault.{Fault}
use Rattle.s39_reading.specs.Encrypted.{IsDecryption}
use Rattle.s39_kdf.specs.Rounds.{rounds, IsUndone, UndoneRoundsDecrypt, UndoingKeepsLengthAndBytes}
use Rattle.s39_reading.specs.Encrypted.{IsRoundDecryption}
use Rattle.s39_c.specs.declared.answer.ShamirAnswer.{ShamirAnswer}
use Rattle.s39_c.specs.declared.encrypted.ShamirParameters.{ShamirParameters}
use Rattle.s39_kdf.specs.Cipher.{EncryptionKeepsLengthAndBytes}
use Rattle.s39_c.specs.Answers.{Gives, done, too_short, out_of_range, refused}
use Rattle.s39_c.specs.Encrypted.{AreParameters, GivesDecrypted, GivesDecryption}
use Rattle.s39_c.specs.Rounds.{IsRound, GivesDecryptedRound}
use Rattle.s39_c.proofs.Compositions.{not_done}
use Rattle.s39_c.proofs.InSteps.{Once, Given, gives_as_once, gives_as_some, step_once, step_some}
use Rattle.s39_c.proofs.OneDecryption.{parameters_once, parameters_some}

abbrev text_of : List ℕ → Result (List ℕ) Fault
text_of text = Ok text

-- ---- one round

numbered_once : (round : ℕ) → AtMostOne (IsRound round)
numbered_once round (Ok _) (Ok _) low also = refl
numbered_once round (Ok _) (Err _) low high = absurd (high low)
numbered_once round (Err _) (Ok _) high low = absurd (high low)
numbered_once round (Err _) (Err _) high also = refl

numbered_some : (round : ℕ) → AtLeastOne (IsRound round)
numbered_some round = elim (cases_lt round rounds) [ inl low ↦ (Ok tt, low) | inr high ↦ (Err tt, λ low. omega (arith, high, low)) ]

module _ (parameters : ShamirParameters) (round : ℕ) (encrypted passphrase old : List ℕ) where
  pub decrypted_round_once : ((n : ℕ) (key : List ℕ) (text : Params × List ℕ) → AtMostOne (IsRoundDecryption n key text))
      → Once (GivesDecryptedRound parameters round encrypted passphrase old)
  decrypted_round_once one =
      step_once (AreParameters parameters) (λ _. out_of_range) _ old (parameters_once parameters)
      (λ params _. step_once (IsRound round) (λ _. out_of_range) _ old (numbered_once round)
      (λ _ _. step_once (IsRoundDecryption round passphrase (params, encrypted)) refused _ old (one round passphrase (params, encrypted))
      (λ undone _. gives_as_once (done (length undone)) undone old)))

  pub decrypted_round_some : ((n : ℕ) (key : List ℕ) (text : Params × List ℕ) → AtLeastOne (IsRoundDecryption n key text))
      → Given (GivesDecryptedRound parameters round encrypted passphrase old)
  decrypted_round_some some =
      step_some (AreParameters parameters) (λ _. out_of_range) _ old (parameters_some parameters)
      (λ params _. step_some (IsRound round) (λ _. out_of_range) _ old (numbered_some round)
      (λ _ _. step_some (IsRoundDecryption round passphrase (params, encrypted)) refused _ old (some round passphrase (params, encrypted))
      (λ undone _. gives_as_some (done (length undone)) undone old)))

  -- what a call gives that writes a text
  given_round : (new : List ℕ) (n : ℕ) → GivesDecryptedRound parameters round encrypted passphrase old new (done n)
      → (params : Params) × AreParameters parameters (Ok params) × IsRoundDecryption round passphrase (params, encrypted) (Ok (take n new))
      × (length (take n new) ≡ n)
  given_round new n (inl (bad, none, same, says)) =
      let code : 0 ≡ 2 = ap (λ (a : ShamirAnswer). a.code) says in absurd (omega (arith, code))
  given_round new n (inr (params, are, inl (bad, high, same, says))) =
      let code : 0 ≡ 2 = ap (λ (a : ShamirAnswer). a.code) says in absurd (omega (arith, code))
  given_round new n (inr (params, are, inr (_, low, inl (fault, is, same, says)))) = absurd (not_done n fault says)
  given_round new n (inr (params, are, inr (_, low, inr (undone, is, inr (short, same, says))))) =
      let code : 0 ≡ 1 = ap (λ (a : ShamirAnswer). a.code) says in absurd (omega (arith, code))
  given_round new n (inr (params, are, inr (_, low, inr (undone, is, inl (fits, bytes, says))))) =
      let count : n ≡ length undone = ap (λ (a : ShamirAnswer). a.written) says in
      let below : n ≤ length undone = omega (arith, count) in
      let above : length undone ≤ n = omega (arith, count) in
      let same : take n new ≡ undone =
      ap (take n) bytes ∙ take-append-le n undone (drop (length undone) old) below ∙ take_all n undone above in
      (params, are, subst (λ (b : List ℕ). IsRoundDecryption round passphrase (params, encrypted) (Ok b)) (sym same) is, ap length same ∙ sym count)

-- ---- four rounds

-- a round that is undone, of a text with a right length and under a printable passphrase
record Undoes (passphrase : List ℕ) (params : Params) (round : ℕ) (text undone : List ℕ) : Type 0 where
  printable : All IsPrintable passphrase
  long : IsSecretLength (length text)
  is_undone : IsUndone passphrase params round text undone

undoes : (round : ℕ) (passphrase : List ℕ) (text : Params × List ℕ) (undone : List ℕ) → IsRoundDecryption round passphrase text (Ok undone)
    → Undoes passphrase text.0 round text.1 undone
undoes round passphrase text undone (refuses bad first is) = absurd (cc)
undoes round passphrase text undone (gives _ printable (refuses bad many is)) = absurd (cc)
undoes round passphrase text undone (gives _ printable (gives _ long (other, given, is))) =
    let both : text_of undone ≡ text_of other = is in
    let same : other ≡ undone = cc in
    record { printable = printable; long = long; is_undone = subst (IsUndone passphrase text.0 round text.1) same given }

module _ (passphrase : List ℕ) (params : Params) (decrypts : UndoneRoundsDecrypt) (encrypted third second first secret : List ℕ) where
  pub four_rounds : IsRoundDecryption 3 passphrase (params, encrypted) (Ok third) → IsRoundDecryption 2 passphrase (params, third) (Ok second)
      → IsRoundDecryption 1 passphrase (params, second) (Ok first) → IsRoundDecryption 0 passphrase (params, first) (Ok secret)
      → IsDecryption None passphrase (params, encrypted) (Ok secret)
  four_rounds is3 is2 is1 is0 =
      let u3 = undoes 3 passphrase (params, encrypted) third is3 in
      let u2 = undoes 2 passphrase (params, third) second is2 in
      let u1 = undoes 1 passphrase (params, second) first is1 in
      let u0 = undoes 0 passphrase (params, first) secret is0 in
      let encrypts = decrypts passphrase params encrypted third second first secret u3.is_undone u2.is_undone u1.is_undone u0.is_undone in
      gives tt u3.printable (gives tt u3.long (secret, encrypts, refl))

-- the first round is refused just as the decryption is
module _ (passphrase : List ℕ) (params : Params) (encrypted : List ℕ) (fault : Fault) where
  of_round : IsRoundDecryption 3 passphrase (params, encrypted) (Err fault) → IsDecryption None passphrase (params, encrypted) (Err fault)
  of_round (refuses bad first is) = refuses bad first is
  of_round (gives _ printable (refuses bad many is)) = gives tt printable (refuses bad many is)
  of_round (gives _ printable (gives _ long (undone, given, is))) = absurd (cc)

  of_decryption : IsDecryption None passphrase (params, encrypted) (Err fault) → IsRoundDecryption 3 passphrase (params, encrypted) (Err fault)
  of_decryption (refuses bad first is) = refuses bad first is
  of_decryption (gives _ printable (refuses bad many is)) = gives tt printable (refuses bad many is)
  of_decryption (gives _ printable (gives _ long (secret, encrypts, is))) = absurd (cc)

  pub first_refusal : IsRoundDecryption 3 passphrase (params, encrypted) (Err fault) ↔ IsDecryption None passphrase (params, encrypted) (Err fault)
  first_refusal = (of_round, of_decryption)

-- ---- four calls

module _ (parameters : ShamirParameters) (passphrase encrypted : List ℕ) (decrypts : UndoneRoundsDecrypt) (keeps : UndoingKeepsLengthAndBytes)
    (none_unprintable : PrintablePassphrasesHaveNone) where
  -- what a round gives isn't refused by another one
  not_refused : (round next : ℕ) (params : Params) (text undone : List ℕ) → IsRoundDecryption round passphrase (params, text) (Ok undone)
      → (fault : Fault) → IsRoundDecryption next passphrase (params, undone) (Err fault) → ⊥
  not_refused round next params text undone is1 fault (refuses bad unprintable is) =
      none_unprintable passphrase bad.position (undoes round passphrase (params, text) undone is1).printable unprintable
  not_refused round next params text undone is1 fault (gives _ printable (refuses bad (short, many) is)) =
      let u1 = undoes round passphrase (params, text) undone is1 in
      short (subst IsSecretLength (sym (keeps passphrase params round text undone u1.is_undone).0) u1.long)
  not_refused round next params text undone is1 fault (gives _ printable (gives _ long (other, given, is))) = absurd (cc)

  same_params : (p q : Params) → AreParameters parameters (Ok p) → AreParameters parameters (Ok q) → q ≡ p
  same_params p q are also = let both = parameters_once parameters (Ok p) (Ok q) are also in cc

  last_call : (params : Params) → AreParameters parameters (Ok params) → (third second first : List ℕ)
      → IsRoundDecryption 3 passphrase (params, encrypted) (Ok third) → IsRoundDecryption 2 passphrase (params, third) (Ok second)
      → IsRoundDecryption 1 passphrase (params, second) (Ok first) → (old new : List ℕ) (answer : ShamirAnswer)
      → GivesDecryptedRound parameters 0 first passphrase old new answer
      → GivesDecrypted parameters (λ given noted. IsDecryption noted passphrase (given, encrypted)) [] old new answer
  last_call params are third second first is3 is2 is1 old new answer (inl (bad, none, same, says)) =
      let differ = parameters_once parameters (Ok params) (Err bad) are none in absurd (cc)
  last_call params are third second first is3 is2 is1 old new answer (inr (other, also, inl (bad, high, same, says))) = absurd (high (omega arith))
  last_call params are third second first is3 is2 is1 old new answer (inr (other, also, inr (_, low, inl (fault, is, same, says)))) =
      let here = subst (λ (p : Params). IsRoundDecryption 0 passphrase (p, first) (Err fault)) (same_params params other are also) is in
      absurd (not_refused 1 0 params second first is1 fault here)
  last_call params are third second first is3 is2 is1 old new answer (inr (other, also, inr (_, low, inr (secret, is, given)))) =
      let here = subst (λ (p : Params). IsRoundDecryption 0 passphrase (p, first) (Ok secret)) (same_params params other are also) is in
      let decryption = four_rounds passphrase params decrypts encrypted third second first secret is3 is2 is1 here in
      inr (params, are, inr (None, refl, inr (secret, decryption, given)))

  pub four_calls : (l m n : ℕ) (old3 new3 old2 new2 old1 new1 old new : List ℕ) (answer : ShamirAnswer)
      → GivesDecryptedRound parameters 3 encrypted passphrase old3 new3 (done l)
      → GivesDecryptedRound parameters 2 (take l new3) passphrase old2 new2 (done m)
      → GivesDecryptedRound parameters 1 (take m new2) passphrase old1 new1 (done n)
      → GivesDecryptedRound parameters 0 (take n new1) passphrase old new answer
      → GivesDecrypted parameters (λ given noted. IsDecryption noted passphrase (given, encrypted)) [] old new answer
  four_calls l m n old3 new3 old2 new2 old1 new1 old new answer call3 call2 call1 call0 =
      let third = take l new3 in
      let second = take m new2 in
      let first = take n new1 in
      let (p3, are, is3, long3) = given_round parameters 3 encrypted passphrase old3 new3 l call3 in
      let (p2, are2, is2, long2) = given_round parameters 2 third passphrase old2 new2 m call2 in
      let (p1, are1, is1, long1) = given_round parameters 1 second passphrase old1 new1 n call1 in
      let here2 = subst (λ (p : Params). IsRoundDecryption 2 passphrase (p, third) (Ok second)) (same_params p3 p2 are are2) is2 in
      let here1 = subst (λ (p : Params). IsRoundDecryption 1 passphrase (p, second) (Ok first)) (same_params p3 p1 are are1) is1 in
      last_call p3 are third second first is3 here2 here1 old new answer call0

  -- the next call for a text that a call gave, where there is room
  next_answer : (next n : ℕ) → next < rounds → (params : Params) → AreParameters parameters (Ok params) → (round : ℕ) (text undone : List ℕ)
      → IsRoundDecryption round passphrase (params, text) (Ok undone) → length undone ≡ n → (old new : List ℕ) (answer : ShamirAnswer)
      → n ≤ length old → GivesDecryptedRound parameters next undone passphrase old new answer → answer ≡ done n
  next_answer next n low params are round text undone is1 long old new answer room (inl (bad, none, same, says)) =
      let differ = parameters_once parameters (Ok params) (Err bad) are none in absurd (cc)
  next_answer next n low params are round text undone is1 long old new answer room (inr (other, also, inl (bad, high, same, says))) =
      absurd (high low)
  next_answer next n low params are round text undone is1 long old new answer room (inr (other, also, inr (_, _, inl (fault, is, same, says)))) =
      let here = subst (λ (p : Params). IsRoundDecryption next passphrase (p, undone) (Err fault)) (same_params params other are also) is in
      absurd (not_refused round next params text undone is1 fault here)
  next_answer next n low params are round text undone is1 long old new answer room (inr (other, also, inr (_, _, inr (more, is, inr (short, same, says))))) =
      let u = undoes next passphrase (other, undone) more is in
      let kept : length more ≡ length undone = (keeps passphrase other next undone more u.is_undone).0 in
      absurd (omega (arith, kept, long, short, room))
  next_answer next n low params are round text undone is1 long old new answer room (inr (other, also, inr (_, _, inr (more, is, inl (fits, bytes, says))))) =
      let u = undoes next passphrase (other, undone) more is in
      let kept : length more ≡ length undone = (keeps passphrase other next undone more u.is_undone).0 in
      says ∙ ap done (kept ∙ long)

  -- what a call gave isn't refused by another one, where there is room
  pub goes_on : (text : List ℕ) (round next n : ℕ) (old1 new1 old new : List ℕ) (answer : ShamirAnswer)
      → GivesDecryptedRound parameters round text passphrase old1 new1 (done n) → next < rounds → n ≤ length old
      → GivesDecryptedRound parameters next (take n new1) passphrase old new answer → answer ≡ done n
  goes_on text round next n old1 new1 old new answer call low room then =
      let (p, are, is, long) = given_round parameters round text passphrase old1 new1 n call in
      next_answer next n low p are round text (take n new1) is long old new answer room then

-- ---- the first call

-- texts of one length have one answer in slices of one length
same_gives : (xs ys old new before after : List ℕ) (answer other : ShamirAnswer) → length xs ≡ length ys → length old ≡ length before
    → Gives xs old new answer → Gives ys before after other → other ≡ answer
same_gives xs ys old new before after answer other long room (inl (fits, bytes, says)) (inl (fits2, bytes2, says2)) =
    says2 ∙ ap done (sym long) ∙ sym says
same_gives xs ys old new before after answer other long room (inl (fits, bytes, says)) (inr (short, same, says2)) =
    absurd (omega (arith, fits, short, long, room))
same_gives xs ys old new before after answer other long room (inr (short, same, says)) (inl (fits, bytes, says2)) =
    absurd (omega (arith, fits, short, long, room))
same_gives xs ys old new before after answer other long room (inr (short, same, says)) (inr (short2, same2, says2)) =
    says2 ∙ ap too_short (sym long) ∙ sym says

module _ (parameters : ShamirParameters) (passphrase encrypted : List ℕ) (keeps : UndoingKeepsLengthAndBytes)
    (encryption_keeps : EncryptionKeepsLengthAndBytes) (none_unprintable : PrintablePassphrasesHaveNone)
    (one : (text : Params × List ℕ) → AtMostOne (IsDecryption None passphrase text)) where
  secret_long : (params : Params) (secret : List ℕ) → IsDecryption None passphrase (params, encrypted) (Ok secret)
      → length secret ≡ length encrypted
  secret_long params secret (refuses bad first is) = absurd (cc)
  secret_long params secret (gives _ printable (refuses bad many is)) = absurd (cc)
  secret_long params secret (gives _ printable (gives _ long (other, encrypts, is))) =
      let both : text_of secret ≡ text_of other = is in
      let same : secret ≡ other = cc in
      ap length same ∙ sym (encryption_keeps passphrase params other encrypted encrypts).0

  not_both : (params : Params) (undone : List ℕ) → IsRoundDecryption 3 passphrase (params, encrypted) (Ok undone) → (fault : Fault)
      → IsRoundDecryption 3 passphrase (params, encrypted) (Err fault) → ⊥
  not_both params undone is fault (refuses bad unprintable says) =
      none_unprintable passphrase bad.position (undoes 3 passphrase (params, encrypted) undone is).printable unprintable
  not_both params undone is fault (gives _ printable (refuses bad (short, many) says)) =
      short (undoes 3 passphrase (params, encrypted) undone is).long
  not_both params undone is fault (gives _ printable (gives _ long (other, given, says))) = absurd (cc)

  same_answer : (params : Params) (old new before after : List ℕ) (answer other : ShamirAnswer) → length old ≡ length before
      → GivesDecryption (IsDecryption None passphrase (params, encrypted)) old new answer
      → GivesDecryption (IsRoundDecryption 3 passphrase (params, encrypted)) before after other → other ≡ answer
  same_answer params old new before after answer other room (inl (fault, is, same, says)) (inl (fault2, is2, same2, says2)) =
      let both = one (params, encrypted) (Err fault) (Err fault2) is (of_round passphrase params encrypted fault2 is2) in
      let one_fault : fault2 ≡ fault = cc in
      says2 ∙ ap refused one_fault ∙ sym says
  same_answer params old new before after answer other room (inl (fault, is, same, says)) (inr (undone, is2, given)) =
      absurd (not_both params undone is2 fault (of_decryption passphrase params encrypted fault is))
  same_answer params old new before after answer other room (inr (secret, is, given)) (inl (fault, is2, same, says)) =
      let both = one (params, encrypted) (Ok secret) (Err fault) is (of_round passphrase params encrypted fault is2) in absurd (cc)
  same_answer params old new before after answer other room (inr (secret, is, given)) (inr (undone, is2, given2)) =
      let u = undoes 3 passphrase (params, encrypted) undone is2 in
      let long : length secret ≡ length undone =
      secret_long params secret is ∙ sym (keeps passphrase params 3 encrypted undone u.is_undone).0 in
      same_gives secret undone old new before after answer other long room given given2

  -- the first call has the answer of the decryption
  pub begins : (old new before after : List ℕ) (answer other : ShamirAnswer) → length old ≡ length before
      → GivesDecrypted parameters (λ given noted. IsDecryption noted passphrase (given, encrypted)) [] old new answer
      → GivesDecryptedRound parameters 3 encrypted passphrase before after other → other ≡ answer
  begins old new before after answer other room (inl (bad, none, same, says)) (inl (bad2, none2, same2, says2)) = says2 ∙ sym says
  begins old new before after answer other room (inl (bad, none, same, says)) (inr (p, are, rest)) =
      let differ = parameters_once parameters (Ok p) (Err bad) are none in absurd (cc)
  begins old new before after answer other room (inr (p, are, rest)) (inl (bad, none, same, says)) =
      let differ = parameters_once parameters (Ok p) (Err bad) are none in absurd (cc)
  begins old new before after answer other room (inr (p, are, inl (bad, (some, reads), same, says))) (inr rest) = absurd (some refl)
  begins old new before after answer other room (inr (p, are, inr (Some noted, (some, reads), given))) (inr rest) = absurd (some refl)
  begins old new before after answer other room (inr (p, are, inr (None, empty, given))) (inr (q, also, inl (bad, high, same, says))) =
      absurd (high (omega arith))
  begins old new before after answer other room (inr (p, are, inr (None, empty, given))) (inr (q, also, inr (_, low, given2))) =
      let both = parameters_once parameters (Ok p) (Ok q) are also in
      let same : q ≡ p = cc in
      let here = subst (λ (r : Params). GivesDecryption (IsRoundDecryption 3 passphrase (r, encrypted)) before after other) same given2 in
      same_answer p old new before after answer other room given here
