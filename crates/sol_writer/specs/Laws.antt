-- What texts say of solutions.
use Rattle.std.specs.Prelude.{◌≡◌, ◌≢◌, ℕ, List, ◌++◌, Err}
use Rattle.solomon_reader.specs.SolutionText.{IsSolution, solution_text}
use Rattle.sol_writer.specs.declared.fault.SolFault.{SolFault}
use Rattle.sol_writer.specs.declared.fault.SolFault.TheVariants.{Truncated}
use Rattle.sol_writer.specs.Reading.{reading}

abbrev pub TextsDiffer : Type 0
TextsDiffer = (r s : List (List ℕ)) (b c : ℕ) → IsSolution r b → IsSolution s c → solution_text r b ≡ solution_text s c → (r ≡ s) × (b ≡ c)

-- A fault that the first bytes show, other than that they end, is the fault of all bytes, however they go on. So the fault that is told is the first from the left.
abbrev pub FirstFaultStays : Type 0
FirstFaultStays = (front back : List ℕ) (e : SolFault) → reading front ≡ Err e → e ≢ Truncated → reading (front ++ back) ≡ Err e
