use Rattle.std.proofs.Common.{◌≡◌, ◌-◌, ◌<◌, length, take, All, sym, ap, subst, ◌∙◌, arith}
use Rattle.s39_split.specs.Shares.{bytes_of}
use Rattle.s39_split.specs.Sharing.{most_shares, digest_length, IsSplit}
use Rattle.s39_split.proofs.SplitLaws.{have_one_split, first_shares_are_a_split}
use Rattle.s39_backup.specs.Correspondence.{StayTheSame}
use Rattle.s39_backup.proofs.Chosen.{same_in_first, none_stay}
use Rattle.s39_backup.proofs.refitting.refit_level.Goals as goal
use Rattle.s39_backup.proofs.refitting.refit_level.Goals.{then-t-gt1, else-t-gt1}

pub returns-clause-levels : goal.returns-clause-levels
returns-clause-levels c =
    let t = c.args.t in
    let count = length c.args.shares.now in
    let other = c.args.other.now.items in
    let others = bytes_of c.split-2.new.out in
    let refitted : IsSplit t count other c.if-t-gt1.random others =
    subst (λ n. IsSplit t n other c.if-t-gt1.random others) c.requires.as_many c.split-2.ensures.shares in
    record {
      split = c.split.ensures.shares;
      refitted = refitted;
      stay = elim c.if-t-gt1.branch [
        | then-t-gt1 w ↦ (
            let (fitted, split, stay) = w.fit_level.ensures in
            let number = split.number in
            let random = w.fit_level.new.random in
            let first = first_shares_are_a_split t most_shares count other random fitted split c.requires.enough c.requires.few in
            let shares = bytes_of c.split.new.out in
            let long : length shares ≡ count = c.split.ensures.shares.number in
            let below : All (λ i. i < count) stay.indices = λ k d within. let less = stay.below k d within in omega (arith, long) in
            record {
              indices = stay.indices;
              staying = stay.staying;
              below = stay.below;
              same = same_in_first shares fitted others stay.indices count below stay.same (let few = c.requires.few in omega arith)
                  (have_one_split t count other random (take count fitted) others first
                  (subst (λ xs. IsSplit t count other xs others) w.random-is refitted));
              key = ap (λ n. take (n - digest_length) c.args.random.now) (sym c.requires.one_length) ∙ stay.key
                  ∙ ap (λ n. take (n - digest_length) random) c.requires.one_length
                  ∙ ap (take (length c.args.secret.now.items - digest_length)) (sym w.random-is);
            })
        | else-t-gt1 w ↦
            subst (λ xs. StayTheSame t c.args.secret.now.items c.args.kept.now c.args.random.now xs (bytes_of c.split.new.out) others) (sym w.random-is)
            (none_stay t c.args.secret.now.items c.args.kept.now c.args.random.now (bytes_of c.split.new.out) others w.if-t-gt1.false c.requires.kept.few)
      ];
    }
