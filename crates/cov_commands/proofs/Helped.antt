-- What is said where the forms of the words aren't printed whole.
use Rattle.std.proofs.Common.{inl, inr, Option, Some, refl}
use Rattle.cov_base.specs.Store.{Held}
use Rattle.cov_words.specs.declared.command.Command.TheVariants.{Help}
use Rattle.cov_commands.specs.Line as said
use Rattle.cov_commands.proofs.Stands.{IsSaid, gives_way}

pub write_is_said : (told : Option Held) → IsSaid (Some Help) told said.WriteFailed
write_is_said told = record { stands = gives_way (Some Help) told (inr (inl refl)) tt; are = refl }
