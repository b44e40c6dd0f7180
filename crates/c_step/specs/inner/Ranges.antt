-- Statements whose numbers name places that exist. Source: this project.
use Rattle.std.specs.Prelude.{ℕ, List, Bool, true, ◌&&◌, nat_lt, nat_le}
use Rattle.std.specs.List.{list_all}
use Rattle.eqn_core.specs.Ordered.{literal_below, choice_below, case_below}
use Rattle.c_step.specs.CStep.{CValue, constant, each_of, some_of, between, digit_of, input_of, CStat, set_bit, set_word, set_out}
use Rattle.c_step.specs.CRuns.{Arrays}

abbrev pub arrays : List ℕ → List Bool → List Bool → Arrays
arrays w b o = record { words = w; bits = b; outs = o }

abbrev pub value_within : ℕ → ℕ → ℕ → CValue → Bool
value_within inputs words bits (constant b) = true
value_within inputs words bits (each_of ls) = list_all (literal_below bits) ls
value_within inputs words bits (some_of ls) = list_all (literal_below bits) ls
value_within inputs words bits (between w lo hi) = nat_lt w words
value_within inputs words bits (digit_of w place) = nat_lt w words && nat_le place 15
value_within inputs words bits (input_of j) = nat_lt j inputs

abbrev pub statement_within : ℕ → ℕ → ℕ → ℕ → CStat → Bool
statement_within inputs outputs words bits (set_bit k v) = nat_lt k bits && value_within inputs words bits v
statement_within inputs outputs words bits (set_word k cases other) = nat_lt k words && (list_all (case_below bits words) cases && choice_below words other)
statement_within inputs outputs words bits (set_out j k) = nat_lt j outputs && nat_lt k bits
