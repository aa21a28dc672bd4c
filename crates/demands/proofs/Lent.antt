-- Bytes that are sound tables: the tables that they stand for, and back. Assumes nothing.
use mathlib.Core.Bool.{true}
use mathlib.Core.List.{List}
use mathlib.Core.Path.{◌≡◌}
use Prim.Native.Nat.{ℕ}
use Rattle.layout.specs.Bytes.{from_bytes, to_bytes}
use Rattle.soundness.specs.Good.{good}
use Rattle.tables.specs.Counts.{CountsFit}
use Rattle.tables.specs.Sound.{Sound}
use Rattle.layout.proofs.Image.{bytes_back, stands_read}
use Rattle.soundness.proofs.GoodBytes.{good-formed, good-sound}
use Rattle.demands.specs.Demands.{Bytes}

pub record Lent (bs : List ℕ) : Type 0 where
  pub sound : Sound (from_bytes bs)
  pub fits : CountsFit (from_bytes bs)
  pub back : to_bytes (from_bytes bs) ≡ bs

pub lent : (bs : List ℕ) → Bytes bs → good bs ≡ true → Lent bs
lent bs byte g = let wf = good-formed bs g in record { sound = good-sound bs g; fits = (stands_read bs byte wf).held.fits; back = bytes_back bs byte wf }
