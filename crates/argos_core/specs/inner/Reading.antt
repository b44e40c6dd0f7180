-- How a configuration is read from the front of a memory. Source: this project.
use Rattle.std.specs.Prelude.{ℕ, zero, suc, ◌+◌, ◌-◌, List, [], ◌∷◌, Option, Some, None, if◌then◌else◌, nat_lt}
use Rattle.argos_core.specs.Automata.{counts_of, registers_in, registers_within}
use Rattle.argos_core.specs.Process.{Process, automaton, parallel, local, freeze, Processes, no_processes, process, States, no_states, state, Body, no_body, body, Configuration, at, beside, Inner, no_inner, inner, Configurations, no_configurations, configuration}

-- what was read, and what is left of the memory
pub record Read (A : Type 0) : Type 0 where
  pub value : A
  pub rest : List ℕ

-- what comes of a value, where there is one
unfoldable pub after : {A B : Type 0} → Option A → (A → Option B) → Option B
after None f = None
after (Some x) f = f x

-- the memory without so many zeros at its front
abbrev pub skipped : ℕ → List ℕ → Option (List ℕ)
skipped zero memory = Some memory
skipped (suc n) [] = None
skipped (suc n) (zero ∷ memory) = skipped n memory
skipped (suc n) (suc k ∷ memory) = None

-- a state and its elapsed count
pub record Place : Type 0 where
  pub number : ℕ
  pub elapsed : ℕ

abbrev pub place_of : ℕ × ℕ → Place
place_of z = record { number = z.0; elapsed = z.1 }

-- the state that many states later
abbrev pub shifted : ℕ → Option Place → Option Place
shifted n None = None
shifted n (Some z) = Some (record { number = n + z.number; elapsed = z.elapsed })

-- which of the states has the code that so many codes come before, and which code 0 or more is
abbrev pub place_behind : States → ℕ → Option Place
place_behind no_states before = None
place_behind (state s p ss) before = if nat_lt before (counts_of s.timeout) then Some (record { number = 0; elapsed = before }) else shifted 1 (place_behind ss (before - counts_of s.timeout))

abbrev pub place_in : States → ℕ → Option Place
place_in ss zero = None
place_in ss (suc before) = place_behind ss before

-- a configuration of a process, of the parts, of the bodies of all states where state q is current, and of a body
abbrev mutual
  pub read : Process → List ℕ → Option (Read Configuration)
  read (automaton ss q0) [] = None
  read (automaton ss q0) (k ∷ memory) = after (place_in ss k) (λ z. after (read_in ss z.number memory) (λ b. Some (record { value = at z.number z.elapsed b.value; rest = b.rest })))
  read (parallel ps) memory = after (read_parts ps memory) (λ cs. Some (record { value = beside cs.value; rest = cs.rest }))
  read (local list p) memory = read p memory
  read (freeze s p) memory = read p memory

  pub read_parts : Processes → List ℕ → Option (Read Configurations)
  read_parts no_processes memory = Some (record { value = no_configurations; rest = memory })
  read_parts (process p ps) memory = after (read p memory) (λ c. after (read_parts ps c.rest) (λ cs. Some (record { value = configuration c.value cs.value; rest = cs.rest })))

  pub read_in : States → ℕ → List ℕ → Option (Read Inner)
  read_in no_states q memory = None
  read_in (state s p ss) zero memory = after (read_within p memory) (λ b. after (skipped (registers_in ss) b.rest) (λ rest. Some (record { value = b.value; rest = rest })))
  read_in (state s p ss) (suc q) memory = after (skipped (registers_within p) memory) (λ rest. read_in ss q rest)

  pub read_within : Body → List ℕ → Option (Read Inner)
  read_within no_body memory = Some (record { value = no_inner; rest = memory })
  read_within (body p) memory = after (read p memory) (λ c. Some (record { value = inner c.value; rest = c.rest }))

-- a configuration that is read, with its state, from behind the code of this state
abbrev pub read_at : States → ℕ → ℕ → List ℕ → Option (Read Configuration)
read_at ss q e memory = after (read_in ss q memory) (λ b. Some (record { value = at q e b.value; rest = b.rest }))

-- a value, where there is one, with what is left of the memory
abbrev pub with_rest : {A : Type 0} → List ℕ → Option A → Option (Read A)
with_rest rest None = None
with_rest rest (Some x) = Some (record { value = x; rest = rest })
