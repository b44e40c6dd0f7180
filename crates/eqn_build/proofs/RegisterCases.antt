-- The next codes of registers.
use Rattle.std.proofs.Common.{◌≡◌, ℕ, zero, suc, ◌+◌, ◌<◌, ◌≤◌, List, [], ◌∷◌, ◌++◌, refl, sym, ap, ◌∙◌, subst, arith, map, length, get_or, drop}
use Rattle.std.specs.Prelude.{slice_index_or}
use Rattle.std.proofs.lemmas.Grind.{common_steps}
use Rattle.std.proofs.lemmas.List.{at_drop_more}
use Rattle.argos_core.specs.Automata.{counts_of, first_code, code_count}
use Rattle.argos_core.specs.Process.{States, no_states, state}
use Rattle.argos_core.specs.Views.{state_of, states_of}
use Rattle.argos_core.specs.declared.prog.State.{State}
use Rattle.argos_core.proofs.Encoding.{encoding}
use Rattle.argos_core.proofs.Shaping.{rules-length}
use Rattle.eqn_core.specs.Equations.{Literal, Case, code, word, next, Line, choose}
use Rattle.eqn_scheme.specs.Scheme.{plus, FireBit, fire_cases, tick_cases, register_line}
use Rattle.eqn_build.specs.declared.builder.Fire.{Fire}
use Rattle.eqn_build.specs.inner.BuilderViews.{fire_bit_of, LeadBelow, cases_of, first_codes_from}

pub fire_cases-drop : (f : ℕ → ℕ) (fs : List Fire) (i : ℕ) (d : Fire) → i < length fs → fire_cases f (map fire_bit_of (drop i fs)) ≡ record { when = plus (get_or fs i d).bit; choice = code (f (get_or fs i d).target) } ∷ fire_cases f (map fire_bit_of (drop (i + 1) fs))
fire_cases-drop f = at_drop_more (λ fs. fire_cases f (map fire_bit_of fs))

pub tick_cases-drop : (r : ℕ) (bs : List ℕ) (i d : ℕ) → i < length bs → tick_cases r (drop i bs) ≡ record { when = plus (get_or bs i d); choice = next r } ∷ tick_cases r (drop (i + 1) bs)
tick_cases-drop r = at_drop_more (tick_cases r)

pub first_codes_from-drop : (used : ℕ) (ss : List State) (i : ℕ) (d : State) → i < length ss
    → first_codes_from (used + 1) (states_of (map state_of (drop i ss))) ≡ (used + 1) ∷ first_codes_from (used + counts_of (state_of (get_or ss i d)).rules.timeout + 1) (states_of (map state_of (drop (i + 1) ss)))
first_codes_from-drop used ss i d below =
    let n = counts_of (state_of (get_or ss i d)).rules.timeout in
    let e : used + 1 + n ≡ used + n + 1 = omega arith in
    at_drop_more (λ xs. first_codes_from (used + 1) (states_of (map state_of xs))) ss i d below ∙ ap (λ (k : ℕ). (used + 1) ∷ first_codes_from k (states_of (map state_of (drop (i + 1) ss)))) e

-- the first code of a state stands at its place
pub first_code-at : (ss : List State) (c q : ℕ) → q < length ss → slice_index_or (first_codes_from c (states_of (map state_of ss))) q 0 + 1 ≡ c + first_code (states_of (map state_of ss)) q
first_code-at [] c q below = absurd (omega arith)
first_code-at (s ∷ ss) c zero below = omega arith
first_code-at (s ∷ ss) c (suc q) below = omega (arith, first_code-at ss (c + counts_of (state_of s).rules.timeout) q (omega arith))

pub first_code-is : (ss : List State) (q : ℕ) → q < length ss → slice_index_or (first_codes_from 1 (states_of (map state_of ss))) q 0 ≡ first_code (states_of (map state_of ss)) q
first_code-is ss q below = omega (arith, first_code-at ss 1 q below)

pub fire_cases-agree : (f g : ℕ → ℕ) (n : ℕ) (fs : List FireBit) → ((q : ℕ) → q < n → f q ≡ g q) → LeadBelow n fs → fire_cases f fs ≡ fire_cases g fs
fire_cases-agree f g n [] h lead = refl
fire_cases-agree f g n (x ∷ fs) h lead = ap (λ (k : ℕ). record { when = plus x.bit; choice = code k } ∷ fire_cases f fs) (h x.target lead.0) ∙ ap (λ (l : List Case). record { when = plus x.bit; choice = code (g x.target) } ∷ l) (fire_cases-agree f g n fs h lead.1)

pub length-first_codes : (ss : List State) (c : ℕ) → length (first_codes_from c (states_of (map state_of ss))) ≡ length ss
length-first_codes [] c = refl
length-first_codes (s ∷ ss) c = ap suc (length-first_codes ss (c + counts_of (state_of s).rules.timeout))

pub lead_same : (n m : ℕ) (fs : List FireBit) → n ≡ m → LeadBelow n fs → LeadBelow m fs
lead_same n m fs e h = subst (λ (k : ℕ). LeadBelow k fs) e h

-- so the cases are those of the scheme
pub register_line-is : (ss : List State) (q0 r : ℕ) (start kill : Literal) (fires : List FireBit) (ticks : List ℕ) (firsts : List ℕ) (cases : List Case) → q0 < length ss → LeadBelow (length ss) fires → firsts ≡ first_codes_from 1 (states_of (map state_of ss)) → cases ≡ cases_of (λ q. slice_index_or firsts q 0) q0 r start kill fires ticks
    → choose cases (word r) ≡ register_line (states_of (map state_of ss)) q0 r start kill fires ticks
register_line-is ss q0 r start kill fires ticks firsts cases exists lead made h =
    let plain = first_code (states_of (map state_of ss)) in
    let index = λ (q : ℕ). slice_index_or (first_codes_from 1 (states_of (map state_of ss))) q 0 in
    let rest = λ (l : List Case) (k : ℕ). choose (record { when = start; choice = code k } ∷ record { when = kill; choice = code 0 } ∷ (l ++ tick_cases r ticks)) (word r) in
    ap (λ (cs : List Case). choose cs (word r)) h
    ∙ ap (λ (fs : List ℕ). choose (cases_of (λ q. slice_index_or fs q 0) q0 r start kill fires ticks) (word r)) made
    ∙ ap (rest (fire_cases index fires)) (first_code-is ss q0 exists)
    ∙ ap (λ (l : List Case). rest l (plain q0)) (fire_cases-agree index plain (length ss) fires (λ q below. first_code-is ss q below) lead)

pub ruleset registers = (common_steps, encoding, fire_cases-drop, tick_cases-drop, first_codes_from-drop)
