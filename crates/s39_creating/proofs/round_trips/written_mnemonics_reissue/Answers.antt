use Rattle.std.proofs.Common.{Ok}
use Rattle.s39_creating.proofs.Reissues.Written.{written_reissue, written_reissue_larger}
use Rattle.s39_creating.proofs.Reissues.Joined.{joined_lines_hold}
use Rattle.s39_creating.proofs.round_trips.written_mnemonics_reissue.Goals as goal

pub returns-clause-same_plan : goal.returns-clause-same_plan
returns-clause-same_plan c = λ asked random text bytes names output answer plan created lines named reissued.
    let (shares, ended, creates, printed) = created in (
      shares,
      creates,
      printed,
      written_reissue c.printed_forms.ensures.first c.printed_forms.ensures.letters c.printed_forms.ensures.short c.created_backups_reissue.ensures asked
          random text bytes lines names output answer shares creates printed plan named reissued,
    )

pub returns-clause-larger_plan : goal.returns-clause-larger_plan
returns-clause-larger_plan c = λ asked larger random text bytes names output answer plan also more secret_bytes random_bytes created lines named reissued.
    let (shares, ended, creates, printed) = created in
    let (others, made) =
    c.larger_plans_keep_the_shares.ensures.exists asked larger random also more creates.1 secret_bytes random_bytes creates.2 in
    let (creation, so) =
    written_reissue_larger c.printed_forms.ensures.first c.printed_forms.ensures.letters c.printed_forms.ensures.short
    c.created_backups_reissue.ensures asked random text bytes lines names output answer shares creates printed larger others also more made
    (c.larger_plans_keep_the_shares.ensures.part asked larger random shares others plan more creates.3 made) named reissued in
    (others, creation, so)

pub returns-clause-joined : goal.returns-clause-joined
returns-clause-joined c = λ asked larger random text bytes names output more plan also members secret_bytes random_bytes created lines named reissued each.
    let (shares, ended, creates, printed) = created in
    let (others, made) =
    c.larger_plans_keep_the_shares.ensures.exists asked larger random also members creates.1 secret_bytes random_bytes creates.2 in
    let part = c.larger_plans_keep_the_shares.ensures.part asked larger random shares others plan members creates.3 made in
    let (creation, (set, read, written)) =
    written_reissue_larger c.printed_forms.ensures.first c.printed_forms.ensures.letters c.printed_forms.ensures.short
    c.created_backups_reissue.ensures asked random text bytes lines names output (Ok tt) shares creates printed larger others also members made
    part named reissued in
    joined_lines_hold c.printed_forms.ensures.first c.printed_forms.ensures.letters c.printed_forms.ensures.short asked larger random text output
    shares others set names also creation part printed written.1 more each
