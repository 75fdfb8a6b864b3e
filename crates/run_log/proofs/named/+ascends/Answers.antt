use Rattle.std.proofs.Common.{◌≡◌, ℕ, ◌<◌, true, List, [], ◌∷◌, length, refl, arith}
use Rattle.flat_model.specs.Log.{ascends}
use Rattle.run_log.proofs.named.+ascends.Goals as goal

ascends_short : (xs : List ℕ) → length xs < 2 → true ≡ ascends xs
ascends_short [] h = refl
ascends_short (x ∷ []) h = refl
ascends_short (x ∷ y ∷ ys) h = absurd (omega arith)

pub returns-then-numbers-lt2 : goal.returns-then-numbers-lt2
returns-then-numbers-lt2 t c = ascends_short c.args.numbers.now c.if-numbers-lt2.true
