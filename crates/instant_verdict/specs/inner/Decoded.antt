-- A verdict in memories, inputs and reactions in place of values of variables.
use Rattle.std.specs.Prelude.{◌≡◌, ℕ, List, map, drop}
use Rattle.eqn_completion.specs.Binary.{memory_of, digits_in}
use Rattle.eqn_dd.specs.Placed.{Register}
use Rattle.eqn_verdict.specs.Verdicts.{reaction_of}
use Rattle.instant_verdict.specs.Verdicts.{coded}
use Rattle.instant_verdict.specs.declared.reactions.Verdict.{Verdict}
use Rattle.instant_verdict.specs.declared.reactions.Verdict.TheVariants as verdicts
use Rattle.verdict_search.specs.declared.finding.Found.{Found}
use Rattle.verdict_search.specs.declared.finding.Found.TheVariants as founds

abbrev pub register_widths : List Register → List ℕ
register_widths regs = map (λ r. r.1) regs

-- the registers have so many digits, and there are so many outputs and next words
abbrev pub IsDecoded : List ℕ → ℕ → ℕ → Found → Verdict → Type 0
IsDecoded widths outputs words founds.One verdicts.One = Unit {0}
IsDecoded widths outputs words (founds.NoReaction at) (verdicts.NoReaction memory input) =
    (memory.items ≡ memory_of widths at.items) × (input ≡ drop (digits_in widths) at.items)
IsDecoded widths outputs words (founds.Several at first second) (verdicts.Several memory input r s) =
    (memory.items ≡ memory_of widths at.items) × (input ≡ drop (digits_in widths) at.items)
    × (coded r ≡ reaction_of outputs words first.items) × (coded s ≡ reaction_of outputs words second.items)
IsDecoded widths outputs words found verdict = ⊥
