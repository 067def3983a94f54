-- The numbers that programs end with.
use Rattle.std.specs.Prelude.{ℕ, Bool, true, false}
use Rattle.program_files.specs.declared.streams.Status.{Status}
use Rattle.program_files.specs.declared.streams.Status.TheVariants.{Success, Errors, NoAnswer}

-- the number that the system gets
abbrev pub status_code : Status → ℕ
status_code Success = 0
status_code Errors = 1
status_code NoAnswer = 2

-- how a program ends if its input has no error, or has one
abbrev pub status_of : Bool → Status
status_of true = Success
status_of false = Errors
