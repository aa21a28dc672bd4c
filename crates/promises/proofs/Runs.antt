-- After any list of requests from boot the tables are sound, and every count is within 32 bits if the arguments are. Assumes nothing.
use mathlib.Core.List.{List, [], ◌∷◌}
use Rattle.tables.specs.declared.Tables.{Tables}
use Rattle.tables.specs.Boot.{boot}
use Rattle.tables.specs.Sound.{Sound}
use Rattle.tables.specs.Counts.{CountsFit}
use Rattle.tables.proofs.BootLaws.{sound-boot}
use Rattle.rules.proofs.Kept.{sound-numbered}
use Rattle.rules.proofs.Fits.{fits-boot, fits-numbered}
use Rattle.promises.specs.Record.{AllFit, Request, after}

pub run_sound : {start : Tables} → Sound start → (requests : List Request) → Sound (after start requests)
unfolding after
run_sound S [] = S
run_sound S (q ∷ earlier) = sound-numbered (run_sound S earlier) q.number q.a q.b

pub run_fits : {start : Tables} → Sound start → CountsFit start → (requests : List Request) → AllFit requests → CountsFit (after start requests)
unfolding after
run_fits S F [] k = F
run_fits S F (q ∷ earlier) (k, ks) = (fits-numbered (run_sound S earlier) (run_fits S F earlier ks) q.number q.a q.b k.a k.b).0

pub boot-run-sound : (requests : List Request) → Sound (after boot requests)
boot-run-sound = run_sound sound-boot

pub boot-run-fits : (requests : List Request) → AllFit requests → CountsFit (after boot requests)
boot-run-fits = run_fits sound-boot fits-boot
