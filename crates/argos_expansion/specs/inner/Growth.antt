-- What code answers that grows a part of a process: all of it, or the first limit that is passed on the way. Source: this project.
use Rattle.std.specs.Prelude.{◌≡◌, ℕ, ◌+◌, List, [], ◌∷◌, ◌++◌, length, Option, Some, None, Result, MatchResult, nat_lt, if◌then◌else◌}
use Rattle.argos_base.specs.Limits.{depth_limit, signal_limit, automaton_limit, code_limit, size_limit}
use Rattle.argos_expansion.specs.Expansion.{Visit, Grown}
use Rattle.argos_expansion.specs.Limits as limit
use Rattle.argos_expansion.specs.declared.counts.Node.{Node}
use Rattle.argos_expansion.specs.declared.counts.Counts.{Counts}
use Rattle.argos_expansion.specs.Refusals.{which_of}
use Rattle.argos_expansion.specs.declared.errors.ExpansionError.{ExpansionError}
use Rattle.argos_expansion.specs.declared.errors.ExpansionError.TheVariants.{Limit, OutOfMemory}

-- what visited nodes add up to
pub record Tally : Type 0 where
  pub signals : ℕ
  pub automata : ℕ
  pub size : ℕ

abbrev pub tally_of : Counts → Tally
tally_of c = record { signals = c.signals; automata = c.automata; size = c.size }

abbrev pub visit_of : Node → Visit
visit_of n = record { depth = n.depth; signals = n.signals; automata = n.automata; codes = n.codes; size = n.size }

-- one more node
abbrev pub counted : Tally → Visit → Tally
counted t v = record { signals = t.signals + v.signals; automata = t.automata + v.automata; size = t.size + v.size }

-- the limit, if the count is beyond it, and else the rest
unfoldable pub limited : limit.Which → ℕ → ℕ → Option (limit.Which × ℕ) → Option (limit.Which × ℕ)
limited which most count rest = if nat_lt most count then Some (which, count) else rest

-- the first limit that is passed at a node, after those that add up to this
unfoldable pub passed_at : Tally → Visit → Option (limit.Which × ℕ)
passed_at t v = limited limit.Depth depth_limit v.depth (limited limit.Signals signal_limit (t.signals + v.signals) (limited limit.Automata automaton_limit (t.automata + v.automata)
    (limited limit.Codes code_limit v.codes (limited limit.Size size_limit (t.size + v.size) None))))

-- that limit, and else the other
abbrev pub or_else : {A : Type 0} → Option A → Option A → Option A
or_else None y = y
or_else (Some x) y = Some x

-- the first limit that is passed at some nodes
unfoldable pub first_passed : Tally → List Visit → Option (limit.Which × ℕ)
first_passed t [] = None
first_passed t (v ∷ vs) = or_else (passed_at t v) (first_passed (counted t v) vs)

-- what they add up to with those before
unfoldable pub tally_after : Tally → List Visit → Tally
tally_after t [] = t
tally_after t (v ∷ vs) = tally_after (counted t v) vs

-- the error says this limit, or that there was no memory
abbrev pub IsStop : Option (limit.Which × ℕ) → ExpansionError → Type 0
IsStop o (Limit which count) = o ≡ Some (which_of which, count)
IsStop o OutOfMemory = Unit {0}

-- what the nodes so far add up to, and the names of the local signals so far
pub record Moment : Type 0 where
  pub tally : Tally
  pub locals : List (List ℕ)

-- From one moment to another this has grown, with no limit passed. Each signal that was counted has its name.
pub record HasGrown {A : Type 0} (g : Grown A) (made : A) (old new : Moment) : Type 0 where
  pub whole : made ≡ g.whole
  pub locals : new.locals ≡ old.locals ++ g.locals
  pub within : first_passed old.tally g.visits ≡ None
  pub tally : new.tally ≡ tally_after old.tally g.visits
  pub next : new.tally.signals ≡ old.tally.signals + length g.locals

-- it has grown to the answer, or stopped
abbrev pub Grows : {A X : Type 0} → Grown A → (X → A) → Moment → Result X ExpansionError → Moment → Type 0
Grows g view old result new = MatchResult result (λ x. HasGrown g (view x) old new) (λ e. IsStop (first_passed old.tally g.visits) e)
