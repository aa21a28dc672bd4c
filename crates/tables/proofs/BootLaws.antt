-- The boot tables are sound. Assumes nothing.
use Prim.Native.Nat.{ℕ, zero, suc}
use mathlib.Core.Bool.{true}
use mathlib.Core.Path.{◌≡◌, refl}
use lib.ListN.{get_or, replicate}
use Rattle.lists.specs.Lists.{filter, times, first_or, falls}
use Rattle.lists.specs.Numbers.{listed, all}
use Rattle.tables.specs.Limits.{semaphore_limit}
use Rattle.tables.specs.Readers.{free_semaphore, semaphore, line}
use Rattle.tables.specs.Boot.{boot}
use Rattle.tables.specs.Sound.{Sound}
use Rattle.tables.specs.Test.{once_each, semaphores_fit, ready_falls, sound_now}
use Rattle.tables.proofs.TestLaws.{checked-sound}

get_d_replicate {ℓ} : {A : Type ℓ} (n i : ℕ) (d : A) → get_or (replicate n d) i d ≡ d
get_d_replicate zero i d = refl
get_d_replicate (suc n) zero d = refl
get_d_replicate (suc n) (suc i) d = get_d_replicate n i d

pub entry-boot : (s : ℕ) → semaphore boot s ≡ free_semaphore
unfolding boot
entry-boot s = get_d_replicate semaphore_limit s free_semaphore

passes-boot : sound_now boot ≡ true
unfolding sound_now boot once_each semaphores_fit ready_falls line filter times falls first_or listed all
passes-boot = refl

pub sound-boot : Sound boot
sound-boot = checked-sound passes-boot
