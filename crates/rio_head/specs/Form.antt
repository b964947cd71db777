-- The small and the large form.
use Rattle.std.specs.Prelude.{ℕ, Bool, nat_lt, nat_le, if◌then◌else◌}

-- how many bytes a place in the file takes
abbrev pub place_len : Bool → ℕ
place_len is_large = if is_large then 8 else 4

-- headers of these versions have the large form
abbrev pub is_large_head : ℕ → Bool
is_large_head version = nat_le 1000000 version

-- directory records of these versions have the large form
abbrev pub is_large_dir : ℕ → Bool
is_large_dir version = nat_lt 1000 version
