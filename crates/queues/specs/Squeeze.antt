-- A count squeezed into a byte, so that many are compared at a time.
use Rattle.std.specs.Prelude.{if◌then◌else◌, ℕ, ◌+◌, ◌-◌, ◌<◌, ◌≡◌, Bool, ◌&&◌, ◌||◌, List, eqb, ltb, ℤ, pos, negsuc, get_or, length}
use Rattle.layout.specs.Bytes.{count_at}

-- -128 to 127 as 0 to 255, and what lies outside as the nearest of them
abbrev pub squeezed : ℤ → ℕ
squeezed (pos n) = if ltb n 128 then 128 + n else 255
squeezed (negsuc n) = if ltb n 128 then 127 - n else 0

-- how many a squeezed count says are waiting
abbrev pub claimed : ℕ → ℕ
claimed x = 128 - x

-- a squeezed count goes with so many waiting, if they are fewer than 128, and is 0 where the semaphore is free
abbrev pub squeezed_fits : Bool → ℕ → ℕ → Bool
squeezed_fits used x many = eqb (claimed x) many && (used || eqb x 128)

-- counts packed at a time
abbrev pub lane_limit : ℕ
lane_limit = 16

-- counts squeezed in a block
abbrev pub block_limit : ℕ
block_limit = 64

-- the first n counts from a semaphore on stand squeezed in the block
pub record Squeezed (bs : List ℕ) (from n : ℕ) (xs : List ℕ) : Type 0 where
  pub long : length xs ≡ block_limit
  pub said : (k : ℕ) → k < n → get_or xs k 0 ≡ squeezed (count_at bs (from + k))
