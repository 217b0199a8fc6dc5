use Rattle.std.proofs.Common.{None, refl}
use Rattle.s39_cli.proofs.CreatedBackups as created
use Rattle.s39_cli.proofs.laws.created_jobs_recover.Goals as goal

pub returns : goal.returns
returns c = created.created_jobs_recover
    (λ form asked random text plan wrote. c.written_mnemonics_recover.ensures.all_lines form None asked random text plan wrote refl)
    (λ form. c.one_recover_output.ensures form None)
