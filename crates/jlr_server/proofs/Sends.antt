-- What another thread may be given.
use Rattle.std.proofs.Common.{List, Option, Some, None}
use denote.RattleType.{RattleType}
use denote.Param.Send.{IsSend}
use base.Shift.{Keyless}
use mir.Val.{Val}
use Rattle.std.specs.contracts.option.Option as option

-- an option of what may be given
pub option_owned : (R : RattleType) → IsSend R → (o : Option R.Denot) (vs : List Val) → Keyless ((option.the_row R).own_val o vs)
option_owned R s None vs = λ us. (tt, λ vss. (tt, tt))
option_owned R s (Some x) vs = λ us. (tt, λ vss. (tt, (s.owned x vss.0, tt)))
