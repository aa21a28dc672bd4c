-- A session: any sequence of calls on the same bytes, and the record that is made of what the firmware sees of them. The latest call comes first.
use Rattle.std.specs.Prelude.{ℕ, List, [], ◌∷◌}
use Rattle.lists.specs.Lists.{Each}
use Rattle.promises.specs.Record.{Request, Entry}
use Rattle.cottonsedge.specs.Fields.{process_field, unpacked}
use Rattle.demands.specs.Demands.{Asked, Result, Allowed, Kernel}

abbrev pub AllAsked : List Request → Type 0
AllAsked qs = Each Asked qs

-- the bytes that a kernel leaves
unfoldable pub left : Kernel → List ℕ → List Request → List ℕ
left k start [] = start
left k start (q ∷ earlier) = (k earlier (left k start earlier) q).bytes

-- what it gives when it is asked then
abbrev pub given : Kernel → List ℕ → List Request → Request → Result
given k start earlier q = k earlier (left k start earlier) q

-- each step is allowed
unfoldable pub Steps : Kernel → List ℕ → List Request → Type 0
Steps k start [] = Unit
Steps k start (q ∷ earlier) = Allowed (left k start earlier) q (given k start earlier q) × Steps k start earlier

-- what the firmware sees of a call: what it asked, and the number that was answered
pub record Exchange : Type 0 where
  pub request : Request
  pub answer : ℕ

unfoldable pub exchanges : Kernel → List ℕ → List Request → List Exchange
exchanges k start [] = []
exchanges k start (q ∷ earlier) = record { request = q; answer = (given k start earlier q).answer } ∷ exchanges k start earlier

-- who calls next: the process that the last answer told, 0 after boot
abbrev pub told_last : List Exchange → ℕ
told_last [] = 0
told_last (x ∷ earlier) = process_field x.answer

-- the record of calls, from what is seen alone
unfoldable pub record_seen : List Exchange → List Entry
record_seen [] = []
record_seen (x ∷ earlier) = record { caller = told_last earlier; request = x.request; answer = unpacked x.answer } ∷ record_seen earlier
