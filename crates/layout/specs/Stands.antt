-- Code works on the lent bytes, and is spoken of by the tables that they stand for.
use Rattle.std.specs.Prelude.{ℕ, ◌+◌, ◌<◌, ◌≡◌, List, get_or, length, set}
use Rattle.std.specs.Int.{w32}
use Rattle.std.proofs.Common.{SFits}
use Rattle.tables.specs.declared.State.{State}
use Rattle.tables.specs.declared.State.TheVariants.{Free, Current, Ready, Suspended, Waiting}
use Rattle.tables.specs.declared.Process.{Process}
use Rattle.tables.specs.declared.Semaphore.{Semaphore}
use Rattle.tables.specs.declared.Tables.{Tables}
use Rattle.tables.specs.Limits.{process_limit, semaphore_limit}
use Rattle.tables.specs.Readers.{free_semaphore, free_slot}
use Rattle.tables.specs.Sound.{Sound}
use Rattle.layout.specs.Offsets.{size}
use Rattle.layout.specs.Bytes.{byte_of, word_byte}

-- a word written from k on
abbrev pub store4 : List ℕ → ℕ → ℕ → List ℕ
store4 bs k n = set (set (set (set bs k (word_byte n 0)) (k + 1) (word_byte n 1)) (k + 2) (word_byte n 2)) (k + 3) (word_byte n 3)

-- a state that has a byte
abbrev pub Named : State → Type 0
Named Free = Unit
Named Current = Unit
Named Ready = Unit
Named Suspended = Unit
Named (Waiting s) = s < semaphore_limit

-- what the bytes can hold, said of the lists alone: a change of anything else keeps it
pub record HeldIn (processes : List Process) (semaphores : List Semaphore) (order : List ℕ) : Type 0 where
  pub slots : length processes ≡ process_limit
  pub entries : length semaphores ≡ semaphore_limit
  pub places : length order ≡ process_limit
  pub waits : (p : ℕ) → p < process_limit → Named (get_or processes p free_slot).state
  pub fits : (s : ℕ) → SFits w32 (get_or semaphores s free_semaphore).count
  pub row : (i : ℕ) → i < process_limit → get_or order i 0 < process_limit

abbrev pub Held : Tables → Type 0
Held t = HeldIn t.processes t.semaphores t.order

-- the lent bytes are these tables
pub record Stands (t : Tables) (bs : List ℕ) : Type 0 where
  pub held : Held t
  pub long : length bs ≡ size
  pub bytes : (i : ℕ) → i < size → get_or bs i 0 ≡ byte_of t i

-- a writer: bytes that are t become bytes that are f t
unfoldable pub Turns : (Tables → Tables) → List ℕ → List ℕ → Type 0
Turns f before after = (t : Tables) → Stands t before → Stands (f t) after

-- a reader: of bytes that are t it tells f t
unfoldable pub Tells : {A : Type 0} → (Tables → A) → List ℕ → A → Type 0
Tells f bs r = (t : Tables) → Stands t bs → r ≡ f t

-- a call: of bytes that are sound tables t it answers g t, and they become f t
unfoldable pub Does : {A : Type 0} → (Tables → Tables) → (Tables → A) → List ℕ → List ℕ → A → Type 0
Does f g before after r = (t : Tables) → Stands t before → Sound t → (r ≡ g t) × Stands (f t) after
