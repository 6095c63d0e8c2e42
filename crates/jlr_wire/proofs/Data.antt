-- The reply of bytes that were read.
use Rattle.std.proofs.Common.{◌≡◌, ℕ, ◌<◌, List, [], ◌∷◌, ◌++◌, length, refl, arith}
use Rattle.std.specs.Prelude.{codes}
use Rattle.hex.specs.Hex.{encode_lower}
use Rattle.jlr_wire.specs.Replies.{data_words}

pub some_data : (bytes : List ℕ) → 0 < length bytes → codes "data " ++ encode_lower bytes ≡ data_words bytes
some_data [] some = absurd (omega (arith, some))
some_data (b ∷ bytes) some = refl
