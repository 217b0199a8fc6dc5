use Rattle.std.proofs.Common.{◌≢◌, List, ℕ, map, All, Contains, refl, sym, subst}
use Rattle.std.proofs.lemmas.List.Elements.{All-contains}
use Rattle.s39_kdf.specs.Cipher.{IsEncryption}
use Rattle.s39_backup.specs.Memo.{MemoState, AreDeciphered, entries_of}
use Rattle.s39_backup.proofs.Memos.{not_among, newest-deciphered}
use Rattle.s39_backup.proofs.memo.Memo.secret.Goals as goal

pub returns-in-Some-clause-only : goal.returns-in-Some-clause-only
returns-in-Some-clause-only c = λ secret is.
    let memo = c.self.inside in
    let entries = entries_of memo.kept.items in
    let encrypted = c.args.encrypted.now.items in
    let entry : List ℕ × List ℕ = (encrypted, c.in-Some.secret.items) in
    let found : Contains entries entry = subst (λ kept. Contains (entries_of kept) entry) c.as_slice.ensures.value c.in-Some.ensures.found in
    let deciphered : IsEncryption c.in-Some.secret.items memo.passphrase.now memo.params encrypted =
    All-contains (λ e. IsEncryption e.1 memo.passphrase.now memo.params e.0) entries entry c.self.invariant found in
    c.encrypts_one_secret.ensures c.args.self.now.passphrase c.args.self.now.params secret c.in-Some.secret.items encrypted is
    (subst (λ (m : MemoState). IsEncryption c.in-Some.secret.items m.passphrase m.params encrypted) c.self.view_is deciphered)

pub invariant_of-self : goal.invariant_of-self
invariant_of-self c =
    let memo = c.self.inside in
    let deciphered : IsEncryption c.copied-2.result.items memo.passphrase.now memo.params c.copied.result.items =
    subst (λ s. IsEncryption s memo.passphrase.now memo.params c.copied.result.items) (sym c.copied-2.ensures)
    (subst (IsEncryption c.decrypt-secret.result.items memo.passphrase.now memo.params) (sym c.copied.ensures) c.decrypt-secret.ensures.value) in
    subst (AreDeciphered memo.passphrase.now memo.params) (sym c.keep.ensures)
    (newest-deciphered memo.passphrase.now memo.params (entries_of memo.kept.items) c.copied.result.items c.copied-2.result.items c.self.invariant deciphered)

pub returns-clause-only : goal.returns-clause-only
returns-clause-only c = λ secret is.
    c.decrypt-secret.ensures.only secret
    (subst (λ (m : MemoState). IsEncryption secret m.passphrase m.params c.args.encrypted.now.items) (sym c.self.view_is) is)

pub returns-clause-remembered : goal.returns-clause-remembered
returns-clause-remembered c = λ among.
    let encrypted = c.args.encrypted.now.items in
    let none : All (λ e. e.encrypted.items ≢ encrypted) c.self.inside.kept.items =
    subst (All (λ e. e.encrypted.items ≢ encrypted)) c.as_slice.ensures.value (c.in_default.ensures.missing refl) in
    absurd (not_among c.self.inside.kept.items encrypted none
    (subst (λ (m : MemoState). Contains (map (λ e. e.0) m.kept) encrypted) (sym c.self.view_is) among))
