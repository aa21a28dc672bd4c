-- The first part of the test: the clauses that say how the tables are laid.
use Rattle.std.specs.Prelude.{Bool, ◌&&◌, ◌||◌, eqb, ltb}
use Rattle.lists.specs.Numbers.{all}
use Rattle.tables.specs.declared.Tables.{Tables}
use Rattle.tables.specs.Limits.{process_limit, semaphore_limit}
use Rattle.tables.specs.Readers.{process}
use Rattle.tables.specs.Test.{null_fits, slot_fits, once_each}

abbrev pub laid_clauses : Tables → Bool
laid_clauses t =
    ltb t.next_semaphore semaphore_limit
    && (ltb t.next_process process_limit
    && (null_fits (process t 0)
    && (all process_limit (λ p. eqb p 0 || slot_fits (process t p))
    && once_each t.order)))
