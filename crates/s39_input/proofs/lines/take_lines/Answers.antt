use Rattle.std.proofs.Common.{◌<◌, [], ◌++◌, Ok, Err, length, take, subst, arith}
use Rattle.std.proofs.lemmas.List.{length-append, length-take}
use Rattle.std.proofs.KnownBytes.{Consumes-nil, Consumes-trans, Consumes-kept}
use Rattle.std.proofs.lemmas.Result.{err_from_is_err_and}
use Rattle.s39_input.proofs.Taking.Reading.{midway_at_start, runs_to_end, runs_to_refusal, runs_to_failure}
use Rattle.s39_input.proofs.Runs.Devices.{one_more_read, consumed_nothing, of_end, of_beginning, of_failure}
use Rattle.s39_input.proofs.lines.take_lines.Goals as goal

pub reads-init : goal.reads-init
reads-init g c = record {
  came = [];
  consumed = Consumes-nil _;
  midway = rw c.new.ensures (midway_at_start g.T.TakeLine.takes c.args.taker.now);
  ready = c.requires.ready;
  no_failure = omega arith;
  more_reads = omega arith;
  few_reads = omega arith;
  room = omega arith;
}

pub reads-preserved : goal.reads-preserved
reads-preserved g c =
    let reading = c.reads.invariant in
    let piece = take c.in-Ok.count c.read.new.buf in
    let read = c.in-Ok.ensures in
    let more = one_more_read c.reads.input.reads c.read.new.self.reads (λ worn. (read.worn_out worn).0) read.reads in record {
      came = reading.came ++ piece;
      consumed = Consumes-trans _ _ _ reading.came piece reading.consumed c.in-Ok.ensures.bytes.0;
      midway = c.in_ok-take_piece-in-Ok.ensures.taken reading.came c.args.taker.now reading.midway;
      ready = c.in_ok-take_piece-in-Ok.ensures.ready;
      no_failure = omega (arith, c.in-Ok.ensures.failures, reading.no_failure);
      more_reads = omega (arith, more, reading.more_reads);
      few_reads = rw (length-append, length-take) (omega (arith, c.in-Ok.ensures.reads, c.in-Ok.ensures.bound, reading.few_reads));
      room = omega (arith, c.read.auto.buf, reading.room);
    }

pub returns-in-Ok-eq0-clause-runs : goal.returns-in-Ok-eq0-clause-runs
returns-in-Ok-eq0-clause-runs g c =
    let reading = c.reads.invariant in
    let room : 0 < length c.read.new.buf = omega (arith, c.read.auto.buf, reading.room) in
    let read = c.in-Ok-eq0.ensures in
    let more = one_more_read c.reads.input.reads c.read.new.self.reads (λ worn. (read.worn_out worn).0) read.reads in
    of_end g.R.Read.remaining c.args.input.now c.read.new.self reading.came _
    (consumed_nothing _ _ _ reading.came c.read.new.buf c.in-Ok-eq0.field-0 reading.consumed read.bytes.0 c.in-Ok-eq0.field-0-test)
    (read.bytes.1 c.in-Ok-eq0.field-0-test room) (omega (arith, read.failures, reading.no_failure)) (omega (arith, more, reading.more_reads))
    (omega (arith, more, reading.few_reads))
    (runs_to_end g.T.TakeLine.takes reading.came c.reads.unfinished.line.items c.reads.unfinished.number c.args.taker.now c.reads.taker
    c.take_numbered.new.taker
    reading.midway (subst (λ line. g.T.TakeLine.takes c.reads.taker line (Ok tt) c.take_numbered.new.taker) c.deref.ensures.0
    c.in_ok-take_numbered-in-Ok-eq0.ensures.taken))

pub returns-in_err-take_numbered-in-Ok-eq0-clause-runs : goal.returns-in_err-take_numbered-in-Ok-eq0-clause-runs
returns-in_err-take_numbered-in-Ok-eq0-clause-runs g c =
    let reading = c.reads.invariant in
    let room : 0 < length c.read.new.buf = omega (arith, c.read.auto.buf, reading.room) in
    let read = c.in-Ok-eq0.ensures in
    let more = one_more_read c.reads.input.reads c.read.new.self.reads (λ worn. (read.worn_out worn).0) read.reads in
    let p = err_from_is_err_and c.from_residual.result c.from_residual.ensures.1 in
    let refused = c.in_err-take_numbered-in-Ok-eq0.ensures.refused in
    rw (p.1, p.2) (of_end g.R.Read.remaining c.args.input.now c.read.new.self reading.came _
    (consumed_nothing _ _ _ reading.came c.read.new.buf c.in-Ok-eq0.field-0 reading.consumed read.bytes.0 c.in-Ok-eq0.field-0-test)
    (read.bytes.1 c.in-Ok-eq0.field-0-test room) (omega (arith, read.failures, reading.no_failure)) (omega (arith, more, reading.more_reads))
    (omega (arith, more, reading.few_reads))
    (runs_to_refusal g.T.TakeLine.takes reading.came c.reads.unfinished.line.items c.reads.unfinished.number
    c.in_err-take_numbered-in-Ok-eq0.field-0.0 c.args.taker.now c.reads.taker c.take_numbered.new.taker reading.midway
    (subst (λ line. g.T.TakeLine.takes c.reads.taker line (Err c.in_err-take_numbered-in-Ok-eq0.field-0.0.refusal) c.take_numbered.new.taker)
    c.deref.ensures.0 refused.0) refused.1))

pub returns-in_err-take_piece-in-Ok-clause-runs : goal.returns-in_err-take_piece-in-Ok-clause-runs
returns-in_err-take_piece-in-Ok-clause-runs g c =
    let reading = c.reads.invariant in
    let piece = take c.in-Ok.count c.read.new.buf in
    let p = err_from_is_err_and c.from_residual-in_err-take_piece-in-Ok.result c.from_residual-in_err-take_piece-in-Ok.ensures.1 in
    let read = c.in-Ok.ensures in
    let more = one_more_read c.reads.input.reads c.read.new.self.reads (λ worn. (read.worn_out worn).0) read.reads in
    rw (p.1, p.2) (of_beginning g.R.Read.remaining c.args.input.now c.read.new.self (reading.came ++ piece) _
    (Consumes-trans _ _ _ reading.came piece reading.consumed read.bytes.0)
    (omega (arith, read.failures, reading.no_failure)) (λ some. omega (arith, more, reading.more_reads))
    (rw (length-append, length-take) (omega (arith, more, read.bound, reading.few_reads)))
    (c.in_err-take_piece-in-Ok.ensures.taken reading.came c.args.taker.now reading.midway))

pub returns-in-Err-clause-runs : goal.returns-in-Err-clause-runs
returns-in-Err-clause-runs g c =
    let reading = c.reads.invariant in
    let read = c.in-Err.ensures in
    of_failure g.R.Read.remaining c.args.input.now c.read.new.self reading.came _ (Consumes-kept _ _ _ reading.came reading.consumed read.bytes)
    (omega (arith, read.failures, reading.no_failure)) (omega (arith, read.reads, reading.few_reads))
    (runs_to_failure g.T.TakeLine.takes reading.came c.reads.unfinished.line.items c.reads.unfinished.number c.args.taker.now c.reads.taker reading.midway)
