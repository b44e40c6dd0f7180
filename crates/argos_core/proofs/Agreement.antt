-- In a program without overlaps, transitions of one state that hold on one set have one effect.
use Rattle.std.proofs.Common.{◌≡◌, ℕ, zero, suc, ◌+◌, ◌-◌, ◌<◌, List, [], ◌∷◌, ◌++◌, Option, Some, None, Bool, true, false, ◌||◌, nat_eq, refl, sym, ap, ◌∙◌, ◌⊎◌, inl, inr, arith, length, slice_get}
use Rattle.argos_base.specs.SignalSets.{SignalSet, set_of}
use Rattle.argos_base.proofs.SetLemmas.{length-set_where}
use Rattle.argos_core.specs.Automata.{Automaton, Parent, counts_of, register_count, registers_within, rules_of, automata_from, automata_of_parts, automata_in, automata_within, automata_of}
use Rattle.argos_core.specs.Guards.{holds}
use Rattle.argos_core.specs.Overlaps.{HaveOneEffect, IsProgram}
use Rattle.argos_core.specs.Process.{Transition, Rules, Process, automaton, parallel, local, freeze, Processes, no_processes, process, States, no_states, state, Body, no_body, body, PlainModule}
use Rattle.argos_core.specs.Reactions.{signal_count}
use Rattle.argos_core.proofs.GuardReads.{read_part, read_part-read, holds-read_part}
use Rattle.argos_core.proofs.Numbers.{same_or_other}

-- any two of the transitions that hold on one set have one effect
abbrev pub Agree : ℕ → List Transition → Type 0
Agree n ts = (x y : ℕ) (t u : Transition) (v : SignalSet) → length v ≡ n → slice_get ts x ≡ Some t → slice_get ts y ≡ Some u → holds t.guard v ≡ true → holds u.guard v ≡ true → HaveOneEffect n t u

-- so do those of each state of a process, of parts, of states with their bodies, and of a body
abbrev mutual
  pub AllAgree : ℕ → Process → Type 0
  AllAgree n (automaton ss q) = AgreeIn n ss
  AllAgree n (parallel ps) = AgreeOf n ps
  AllAgree n (local list p) = AllAgree n p
  AllAgree n (freeze s p) = AllAgree n p

  pub AgreeOf : ℕ → Processes → Type 0
  AgreeOf n no_processes = Unit {0}
  AgreeOf n (process p ps) = AllAgree n p × AgreeOf n ps

  pub AgreeIn : ℕ → States → Type 0
  AgreeIn n no_states = Unit {0}
  AgreeIn n (state r p ss) = Agree n r.transitions × AgreeWithin n p × AgreeIn n ss

  pub AgreeWithin : ℕ → Body → Type 0
  AgreeWithin n no_body = Unit {0}
  AgreeWithin n (body p) = AllAgree n p

-- two sets are one or not, and so are two effects

same_set : (a b : SignalSet) → (a ≡ b) ⊎ ¬ (a ≡ b)
same_set [] [] = inl refl
same_set [] (y ∷ b) = inr (λ e. cc)
same_set (x ∷ a) [] = inr (λ e. cc)
same_set (true ∷ a) (true ∷ b) = elim (same_set a b) [ inl e ↦ inl (ap (λ z. true ∷ z) e) | inr n ↦ inr (λ e. let f : a ≡ b = cc in n f) ]
same_set (false ∷ a) (false ∷ b) = elim (same_set a b) [ inl e ↦ inl (ap (λ z. false ∷ z) e) | inr n ↦ inr (λ e. let f : a ≡ b = cc in n f) ]
same_set (true ∷ a) (false ∷ b) = inr (λ e. cc)
same_set (false ∷ a) (true ∷ b) = inr (λ e. cc)

same_effect : (n : ℕ) (t u : Transition) → HaveOneEffect n t u ⊎ ¬ (HaveOneEffect n t u)
same_effect n t u = elim (same_or_other t.target u.target) [
  | inl a ↦ elim (same_set (set_of n t.outs) (set_of n u.outs)) [ inl b ↦ inl (a, b) | inr b ↦ inr (λ e. b e.1) ]
  | inr a ↦ inr (λ e. a e.0)
]

order_of : (x y : ℕ) → (x < y) ⊎ ((y < x) ⊎ (x ≡ y))
order_of x y = grind arith

-- the states of each listed automaton
module _ (P : PlainModule) (program : IsProgram P) where
  agree_in_order : (k q : ℕ) (a : Automaton) (r : Rules) → slice_get (automata_of P.process) k ≡ Some a → slice_get (rules_of a.states) q ≡ Some r
      → (x y : ℕ) (t u : Transition) (v : SignalSet) → length v ≡ signal_count P → slice_get r.transitions x ≡ Some t → slice_get r.transitions y ≡ Some u → holds t.guard v ≡ true → holds u.guard v ≡ true → x < y
      → HaveOneEffect (signal_count P) t u
  agree_in_order k q a r at_register at_state x y t u v sized at_x at_y t_holds u_holds below =
      elim (same_effect (signal_count P) t u) [
        | inl same ↦ same
        | inr differ ↦ absurd (program.no_overlap k q x y (read_part (signal_count P) r.transitions v) (record {
          rules = r;
          state = record { automaton = a; register = at_register; state = at_state };
          order = below;
          first = t;
          first_at = at_x;
          second = u;
          second_at = at_y;
          sized = length-set_where (signal_count P) _;
          read = read_part-read (signal_count P) r.transitions v;
          first_holds = sym (holds-read_part (signal_count P) r.transitions v sized x t at_x) ∙ t_holds;
          second_holds = sym (holds-read_part (signal_count P) r.transitions v sized y u at_y) ∙ u_holds;
          differ = differ;
        }))
      ]

  agree_at : (k q : ℕ) (a : Automaton) (r : Rules) → slice_get (automata_of P.process) k ≡ Some a → slice_get (rules_of a.states) q ≡ Some r → Agree (signal_count P) r.transitions
  agree_at k q a r at_register at_state x y t u v sized at_x at_y t_holds u_holds = elim (order_of x y) [
    | inl below ↦ agree_in_order k q a r at_register at_state x y t u v sized at_x at_y t_holds u_holds below
    | inr (inl above) ↦ let e = agree_in_order k q a r at_register at_state y x u t v sized at_y at_x u_holds t_holds above in (sym e.0, sym e.1)
    | inr (inr equal) ↦ let same : t ≡ u = cc in (ap (λ (z : Transition). z.target) same, ap (λ (z : Transition). set_of (signal_count P) z.outs) same)
  ]

-- from the list of automata back to the process

abbrev ListAgrees : ℕ → List Automaton → Type 0
ListAgrees n xs = (k q : ℕ) (a : Automaton) (r : Rules) → slice_get xs k ≡ Some a → slice_get (rules_of a.states) q ≡ Some r → Agree n r.transitions

get_left : (xs ys : List Automaton) (k : ℕ) (a : Automaton) → slice_get xs k ≡ Some a → slice_get (xs ++ ys) k ≡ Some a
get_left [] ys k a h = cc
get_left (x ∷ xs) ys zero a h = h
get_left (x ∷ xs) ys (suc k) a h = get_left xs ys k a h

get_right : (xs ys : List Automaton) (k : ℕ) (a : Automaton) → slice_get ys k ≡ Some a → (j : ℕ) × (slice_get (xs ++ ys) j ≡ Some a)
get_right [] ys k a h = (k, h)
get_right (x ∷ xs) ys k a h = let r = get_right xs ys k a h in (suc r.0, r.1)

left_agrees : (n : ℕ) (xs ys : List Automaton) → ListAgrees n (xs ++ ys) → ListAgrees n xs
left_agrees n xs ys h k q a r at_register at_state = h k q a r (get_left xs ys k a at_register) at_state

right_agrees : (n : ℕ) (xs ys : List Automaton) → ListAgrees n (xs ++ ys) → ListAgrees n ys
right_agrees n xs ys h k q a r at_register at_state = let j = get_right xs ys k a at_register in h j.0 q a r j.1 at_state

mutual
  process_agrees : (p : Process) (n r : ℕ) (up : Option Parent) (by : ℕ → Bool) → ListAgrees n (automata_from r up by p) → AllAgree n p
  process_agrees (automaton ss q) n r up by h = states_agree ss n (suc r) r 1 by (λ x s e. h 0 x _ s refl e) (λ k x a s at_register e. h (suc k) x a s at_register e)
  process_agrees (parallel ps) n r up by h = parts_agree ps n r up by h
  process_agrees (local list p) n r up by h = process_agrees p n r up by h
  process_agrees (freeze s p) n r up by h = process_agrees p n r up (λ k. nat_eq s k || by k) h

  parts_agree : (ps : Processes) (n r : ℕ) (up : Option Parent) (by : ℕ → Bool) → ListAgrees n (automata_of_parts r up by ps) → AgreeOf n ps
  parts_agree no_processes n r up by h = tt
  parts_agree (process p ps) n r up by h = (
    process_agrees p n r up by (left_agrees n (automata_from r up by p) (automata_of_parts (r + register_count p) up by ps) h),
    parts_agree ps n (r + register_count p) up by (right_agrees n (automata_from r up by p) (automata_of_parts (r + register_count p) up by ps) h),
  )

  states_agree : (ss : States) (n r own code : ℕ) (by : ℕ → Bool) → ((x : ℕ) (s : Rules) → slice_get (rules_of ss) x ≡ Some s → Agree n s.transitions) → ListAgrees n (automata_in r own code by ss) → AgreeIn n ss
  states_agree no_states n r own code by own_agree h = tt
  states_agree (state s p ss) n r own code by own_agree h =
      let next : ℕ = code + counts_of s.timeout in
      let up : Parent = record { register = own; first = code; last = code + counts_of s.timeout - 1 } in (
        own_agree 0 s refl,
        body_agrees p n r up by (left_agrees n (automata_within r up by p) (automata_in (r + registers_within p) own next by ss) h),
        states_agree ss n (r + registers_within p) own next by (λ x t e. own_agree (suc x) t e) (right_agrees n (automata_within r up by p) (automata_in (r + registers_within p) own next by ss) h),
      )

  body_agrees : (b : Body) (n r : ℕ) (up : Parent) (by : ℕ → Bool) → ListAgrees n (automata_within r up by b) → AgreeWithin n b
  body_agrees no_body n r up by h = tt
  body_agrees (body p) n r up by h = process_agrees p n r (Some up) by h

-- the states of a program
pub program_agrees : (P : PlainModule) → IsProgram P → AllAgree (signal_count P) P.process
program_agrees P program = process_agrees P.process (signal_count P) 0 None (λ k. false) (agree_at P program)
