-- The tables at boot: process 0 is current, every other slot free, every semaphore free with count 0, the ready list empty.
use Rattle.std.specs.Prelude.{◌-◌, replicate, ◌∷◌}
use Rattle.lists.specs.Numbers.{count_up}
use Rattle.tables.specs.declared.State.TheVariants.{Current}
use Rattle.tables.specs.declared.Tables.{Tables}
use Rattle.tables.specs.Limits.{process_limit, semaphore_limit}
use Rattle.tables.specs.Readers.{free_slot, free_semaphore}
use Rattle.tables.specs.Setters.{in_state}

unfoldable pub boot : Tables
boot =
    record {
      processes = in_state Current free_slot ∷ replicate (process_limit - 1) free_slot;
      semaphores = replicate semaphore_limit free_semaphore;
      order = count_up 0 process_limit;
      next_semaphore = 0;
      next_process = 1;
    }
