use Rattle.std.proofs.Common.{◌≡◌, ◌≢◌, ◌<◌, List, [], ◌∷◌, Option, None, Some, Contains, sym, refl, ◌∙◌}
use Rattle.std.specs.Prelude.{IsSomeAnd}
use Rattle.std.specs.List.{slice_get}
use Rattle.std.proofs.lemmas.List.Elements.{All-contains}
use Rattle.s39_lists.proofs.Sublists.{Contains-head}
use Rattle.s39_words.specs.declared.share.ShareFields.{ShareFields}
use Rattle.s39_backup.specs.declared.plan.Members.{Members}
use Rattle.s39_backup.specs.Reissue.{IsOfPlan}
use Rattle.s39_backup.proofs.laws.plans_of_a_backup_are_like_its_plan.Goals as goal

-- a share of a set that isn't empty
some_share : (set : List ShareFields) → set ≢ [] → (share : ShareFields) × Contains set share
some_share [] some = absurd (some refl)
some_share (share ∷ set) some = (share, Contains-head share set)

pub returns-clause-group_threshold : goal.returns-clause-group_threshold
returns-clause-group_threshold c = λ set passphrase secret group_threshold groups is some backup fits.
    let (share, among) = some_share set some in
    let own = c.backups_reissue_their_shares.ensures.of_plan set passphrase secret is backup in
    sym (All-contains (IsOfPlan group_threshold groups) set share fits among).threshold_is
    ∙ (All-contains (IsOfPlan backup.group_threshold backup.groups) set share own among).threshold_is

pub returns-clause-count : goal.returns-clause-count
returns-clause-count c = λ set passphrase secret group_threshold groups is some backup fits.
    let (share, among) = some_share set some in
    let own = c.backups_reissue_their_shares.ensures.of_plan set passphrase secret is backup in
    sym (All-contains (IsOfPlan group_threshold groups) set share fits among).count_is
    ∙ (All-contains (IsOfPlan backup.group_threshold backup.groups) set share own among).count_is

-- the members of a group of which this holds
some_members : (Fits : Members → Type 0) (found : Option Members) → IsSomeAnd found Fits
    → (members : Members) × (found ≡ Some members) × Fits members
some_members Fits None fits = absurd fits
some_members Fits (Some members) fits = (members, refl, fits)

pub returns-clause-members : goal.returns-clause-members
returns-clause-members c = λ set passphrase secret group_threshold groups share is backup fits among.
    let own = c.backups_reissue_their_shares.ensures.of_plan set passphrase secret is backup in
    let Fits : Members → Type 0 = λ m. (share.member_index < m.count) × (share.member_threshold ≡ m.threshold) in
    let (members, found, fit) =
    some_members Fits (slice_get groups share.group_index) (All-contains (IsOfPlan group_threshold groups) set share fits among).member_is in
    let (first, own_found, own_fit) =
    some_members Fits (slice_get backup.groups share.group_index)
    (All-contains (IsOfPlan backup.group_threshold backup.groups) set share own among).member_is in
    (members, first, found, own_found, sym fit.1 ∙ own_fit.1, fit.0)
