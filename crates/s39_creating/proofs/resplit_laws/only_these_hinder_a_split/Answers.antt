use Rattle.std.proofs.Common.{inl, inr, refl}
use Rattle.s39_input.specs.declared.fault.Refusal.TheVariants.{Lack, NotExtendable, RandomLength, SameIdentifier}
use Rattle.s39_creating.proofs.resplit_laws.only_these_hinder_a_split.Goals as goal

pub returns : goal.returns
returns c set asked random (Lack lack) hinders = inl (lack, refl)
returns c set asked random NotExtendable hinders = inr (inl refl)
returns c set asked random (RandomLength needed) hinders = inr (inr (inl (needed, refl)))
returns c set asked random SameIdentifier hinders = inr (inr (inr refl))
returns c set asked random _ hinders = absurd hinders
