-- What a device of a call tells before and after. Source: this project.
use Rattle.std.specs.Prelude.{ℕ}

-- what a device tells before a call and after it, and its counts of faults
pub record Call (T : Type 0) : Type 0 where
  pub told : T
  pub told' : T
  pub faults : ℕ
  pub faults' : ℕ

-- of a device that tells and counts so, before and after
abbrev pub call : {D T : Type 0} → (D → T) → (D → ℕ) → D → D → Call T
call tells counts old new = record { told = tells old; told' = tells new; faults = counts old; faults' = counts new }
