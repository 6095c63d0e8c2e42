-- What a server tells when it ends.
use Rattle.std.specs.Prelude.{ℕ, List, [], ◌∷◌, ◌++◌, codes, decimal}

-- how many clients were waited for, and how many entries the history has
abbrev pub counts_lines : ℕ → ℕ → List ℕ
counts_lines accepts entries = codes "served " ++ decimal accepts ++ 10 ∷ codes "entries " ++ decimal entries ++ 10 ∷ []
