-- Requests that can be asked: their arguments fit, and a test of it that computes. Assumes nothing.
use Prim.Native.Nat.{◌^◌}
use mathlib.Core.Bool.{Bool, ◌&&◌, true}
use mathlib.Core.List.{List, [], ◌∷◌}
use mathlib.Core.Path.{◌≡◌}
use lib.Dec.{ltb}
use lib.IntN.{ℤ}
use lib.Signed.{mag}
use mir.Syntax.{w32}
use mir.Val.{hbits}
use borrow.Author.Tests.{ltb-true}
use Rattle.promises.specs.Record.{AllFit, Request}
use Rattle.lists.proofs.Bools.{both}
use Rattle.demands.specs.Sessions.{AllAsked}

pub asked-fit : (requests : List Request) → AllAsked requests → AllFit requests
asked-fit [] k = tt
asked-fit (q ∷ earlier) (k, ks) = (k.arguments, asked-fit earlier ks)

abbrev pub fits : ℤ → Bool
fits z = ltb (mag z) (2 ^ hbits w32)

abbrev pub all_asked : List Request → Bool
all_asked [] = true
all_asked (q ∷ qs) = (ltb q.number 256 && (fits q.a && fits q.b)) && all_asked qs

pub tested : (requests : List Request) → all_asked requests ≡ true → AllAsked requests
tested [] h = tt
tested (q ∷ qs) h =
    let w = both (ltb q.number 256 && (fits q.a && fits q.b)) (all_asked qs) h in
    let x = both (ltb q.number 256) (fits q.a && fits q.b) w.0 in
    let y = both (fits q.a) (fits q.b) x.1 in (
      record { number = ltb-true _ _ x.0; arguments = record { a = record { sfits = ltb-true _ _ y.0 }; b = record { sfits = ltb-true _ _ y.1 } } },
      tested qs w.1,
    )
