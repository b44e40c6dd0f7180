-- The table before a line is drawn.
use Rattle.std.proofs.Common.{◌≡◌, ◌≢◌, ℕ, zero, suc, ◌+◌, ◌-◌, ◌<◌, ◌≤◌, List, [], ◌∷◌, ◌++◌, Option, Some, None, Bool, true, false, if◌then◌else◌, nat_eq, length, map, take, drop, get_or, set, replicate, All, Ok, refl, sym, ap, ◌∙◌, subst, inl, inr, arith, length-append}
use Rattle.std.specs.Prelude.{slice_index_or}
use Rattle.std.proofs.lemmas.Bool.{cases_lt, cases_eq}
use Rattle.std.proofs.lemmas.Bool.Decides.{nat_tests}
use Rattle.std.proofs.lemmas.List.{take_all, drop_more, length-set, get_or-set_other, get_or-set_same, length-replicate, get_or_append_left, get_or_at}
use Rattle.argos_base.specs.SignalSets.{SignalSet, has}
use Rattle.dd_core.specs.declared.nodes.NodeId.{NodeId}
use Rattle.dd_core.specs.Functions.{variable_value}
use Rattle.dd_core.specs.Arenas.{ArenaView, IsArena, Holds, function_of, Keeps, Makes, AddsAtMost}
use Rattle.dd_core.proofs.Composing.{Keeps-trans}
use Rattle.eqn_core.specs.Solutions.{Values, bit_of}
use Rattle.eqn_completion.specs.Completions.{read_bit}
use Rattle.eqn_dd.specs.Denoting.{code_at, IsWord}
use Rattle.eqn_dd.specs.declared.places.Places.{Places}
use Rattle.eqn_dd.specs.Placed.{register_at}
use Rattle.eqn_dd.specs.inner.Registers.{DenoteMemory}
use Rattle.eqn_dd.specs.inner.Tables.{TableView, read_given, GivenAre, InputsAre, WordsAre, Begins}
use Rattle.eqn_dd.proofs.Denotations.{adds_nothing, adds_in_turn, denotes_constant, word-kept, is_word_later}
use Rattle.eqn_dd.proofs.WordSteps.{held_none, held_push, held_later}
use Rattle.eqn_dd.proofs.RegisterSteps.{adds_variable}
use Rattle.eqn_dd.proofs.StructureSteps.{all_words}

abbrev start : NodeId
start = record { 0 = 0 }

-- ---- inputs

pub record InputsSoFar (old : ArenaView) (variables : List ℕ) (i : ℕ) (new : ArenaView) (bits : List NodeId) : Type 0 where
  pub adds : AddsAtMost i old new
  pub sized : length bits ≡ i
  pub held : All (λ (f : NodeId). Holds new f.0) bits
  pub equal : (x : SignalSet) (k : ℕ) → length x ≡ new.variables → k < i → function_of new (slice_index_or bits k (record { 0 = 0 })).0 x ≡ has x (slice_index_or variables k 0)

pub inputs_begin : (arena : ArenaView) (variables : List ℕ) → IsArena arena → InputsSoFar arena variables 0 arena []
inputs_begin arena variables valid = record { adds = adds_nothing 0 arena valid; sized = refl; held = held_none arena; equal = λ x k sized below. absurd (omega arith) }

pub inputs_more : {a b c : ArenaView} {variables : List ℕ} {i : ℕ} {bits : List NodeId} {f : NodeId} → i < length variables → InputsSoFar a variables i b bits → Makes 1 b c (variable_value (slice_index_or variables i 0)) (Ok f) → InputsSoFar a variables (i + 1) c (bits ++ f ∷ [])
inputs_more {a} {b} {c} {variables} {i} {bits} {f} inside before made = record {
  adds = adds_in_turn i 1 (i + 1) (omega arith) before.adds (adds_variable made);
  sized = omega (arith, length-append bits (f ∷ []), before.sized);
  held = held_push c bits f (held_later b c bits made.keeps before.held) made.node.held;
  equal = λ x k sized below. elim (cases_lt k i) [
    | inl old ↦
        let sized_b : length x ≡ b.variables = sized ∙ made.keeps.variables in
        ap (λ (g : NodeId). function_of c g.0 x) (get_or_append_left bits (f ∷ []) start k (omega (arith, before.sized)))
        ∙ made.keeps.denotes (get_or bits k start).0 (before.held k start (omega (arith, before.sized))) x sized_b
        ∙ before.equal x k sized_b old
    | inr new ↦
        let at : k ≡ i = omega arith in
        ap (λ (g : NodeId). function_of c g.0 x) (get_or_at bits f [] start k (before.sized ∙ sym at))
        ∙ made.node.denotes x sized
        ∙ ap (λ (j : ℕ). has x (slice_index_or variables j 0)) (sym at)
  ];
}

replicate_held : (arena : ArenaView) (n : ℕ) → IsArena arena → All (λ (g : NodeId). Holds arena g.0) (replicate n start)
replicate_held arena zero valid k d below = absurd (omega arith)
replicate_held arena (suc n) valid zero d below = (denotes_constant arena 0 false valid refl).held
replicate_held arena (suc n) valid (suc k) d below = replicate_held arena n valid k d (omega arith)

held_append : (arena : ArenaView) (xs ys : List NodeId) → All (λ (g : NodeId). Holds arena g.0) xs → All (λ (g : NodeId). Holds arena g.0) ys → All (λ (g : NodeId). Holds arena g.0) (xs ++ ys)
held_append arena [] ys first second k d below = second k d below
held_append arena (x ∷ xs) ys first second zero d below = first 0 x (omega arith)
held_append arena (x ∷ xs) ys first second (suc k) d below = held_append arena xs ys (λ j e low. first (suc j) e (omega arith)) second k d (omega arith)

pub inputs_whole : {a b : ArenaView} {variables : List ℕ} {i count : ℕ} {bits whole : List NodeId} (m : ℕ) → length variables ≡ i → i ≤ count → m ≡ i → whole ≡ take count bits ++ replicate (count - m) (record { 0 = 0 }) → InputsSoFar a variables i b bits → InputsAre b variables count whole
inputs_whole {a} {b} {variables} {i} {count} {bits} {whole} m every room same is before =
    let shape : whole ≡ bits ++ replicate (count - m) start = is ∙ ap (λ (l : List NodeId). l ++ replicate (count - m) start) (take_all count bits (omega (arith, before.sized))) in
    subst (λ (l : List NodeId). InputsAre b variables count l) (sym shape) (record {
      sized = omega (arith, length-append bits (replicate (count - m) start), length-replicate (count - m) start, before.sized);
      held = held_append b bits (replicate (count - m) start) before.held (replicate_held b (count - m) before.adds.arena);
      equal = λ x k sized below.
          ap (λ (g : NodeId). function_of b g.0 x) (get_or_append_left bits (replicate (count - m) start) start k (omega (arith, before.sized)))
          ∙ before.equal x k sized (omega arith);
    })

-- ---- cyclic bits

-- the last cyclic bits, from place `left` on
pub record GivenSoFar (old : ArenaView) (cyclic variables : List ℕ) (count left : ℕ) (new : ArenaView) (given : List (Option NodeId)) : Type 0 where
  pub inside : left ≤ length cyclic
  pub adds : AddsAtMost (length cyclic - left) old new
  pub given_are : GivenAre new (drop left cyclic) (drop left variables) count given

none_there : (n k : ℕ) → slice_index_or (replicate {A = Option NodeId} n None) k None ≡ None
none_there zero k = refl
none_there (suc n) zero = refl
none_there (suc n) (suc k) = none_there n k

some_is_not_none : (f : NodeId) → ◌≡◌ {A = Option NodeId} (Some f) None → ⊥
some_is_not_none f e = cc

past : (cs : List ℕ) (k : ℕ) → length cs ≤ k → drop k cs ≡ []
past [] zero h = refl
past [] (suc k) h = refl
past (c ∷ cs) zero h = absurd (omega arith)
past (c ∷ cs) (suc k) h = past cs k (omega arith)

pub given_begin : (arena : ArenaView) (cyclic variables : List ℕ) (count left : ℕ) (given : List (Option NodeId)) → IsArena arena → left ≡ length cyclic → length variables ≡ length cyclic → given ≡ replicate {A = Option NodeId} count None → GivenSoFar arena cyclic variables count left arena given
given_begin arena cyclic variables count left given valid every same is = record {
  inside = omega arith;
  adds = adds_nothing (length cyclic - left) arena valid;
  given_are = record {
    sized = ap length is ∙ length-replicate count None;
    held = λ k f at. absurd (some_is_not_none f (sym at ∙ ap (λ (l : List (Option NodeId)). slice_index_or l k None) is ∙ none_there count k));
    equal = λ x s k sized below.
        ap (λ (l : List (Option NodeId)). read_given arena (slice_index_or l k None) (bit_of s k) x) is
        ∙ ap (λ (o : Option NodeId). read_given arena o (bit_of s k) x) (none_there count k)
        ∙ sym (ap (λ (cs : List ℕ). read_bit cs (map (has x) (drop left variables)) s k) (past cyclic left (omega arith)));
  };
}

pub given-kept : (a b : ArenaView) (o : Option NodeId) (v : Bool) (x : SignalSet) → Keeps a b → ((f : NodeId) → o ≡ Some f → Holds a f.0) → length x ≡ a.variables → read_given b o v x ≡ read_given a o v x
given-kept a b None v x keeps held sized = refl
given-kept a b (Some f) v x keeps held sized = keeps.denotes f.0 (held f refl) x sized

eq_same : (k : ℕ) → nat_eq k k ≡ true
eq_same k = grind (arith, nat_tests)

eq_other : (j k : ℕ) → j ≢ k → nat_eq k j ≡ false
eq_other j k h = grind (arith, nat_tests)

pub given_more : {a b c : ArenaView} {cyclic variables : List ℕ} {count left k : ℕ} {given : List (Option NodeId)} {f : NodeId} → k + 1 ≡ left → length variables ≡ length cyclic → slice_index_or cyclic k 0 < count → GivenSoFar a cyclic variables count left b given
    → Makes 1 b c (variable_value (slice_index_or variables k 0)) (Ok f) → GivenSoFar a cyclic variables count k c (set given (slice_index_or cyclic k 0) (Some f))
given_more {a} {b} {c} {cyclic} {variables} {count} {left} {k} {given} {f} next same small before made = record {
  inside = omega (arith, before.inside);
  adds = adds_in_turn (length cyclic - left) 1 (length cyclic - k) (omega (arith, before.inside)) before.adds (adds_variable made);
  given_are = record {
    sized = length-set given place (Some f) ∙ before.given_are.sized;
    held = held_there;
    equal = equal_there;
  };
}
  where
    place : ℕ
    place = slice_index_or cyclic k 0

    variable : ℕ
    variable = slice_index_or variables k 0

    inside : k < length cyclic
    inside = omega (arith, before.inside)

    one_some : (g h : NodeId) → ◌≡◌ {A = Option NodeId} (Some g) (Some h) → g ≡ h
    one_some g h e = cc

    held_there : (j : ℕ) (g : NodeId) → slice_index_or (set given place (Some f)) j None ≡ Some g → Holds c g.0
    held_there j g at = elim (cases_eq j place) [
      | inl here ↦
          let own : slice_index_or (set given place (Some f)) j None ≡ Some f = ap (λ (i : ℕ). slice_index_or (set given place (Some f)) i None) here ∙ get_or-set_same given place (Some f) None (omega (arith, before.given_are.sized)) in
          subst (λ (h : NodeId). Holds c h.0) (one_some f g (sym own ∙ at)) made.node.held
      | inr other ↦ made.keeps.held g.0 (before.given_are.held j g (sym (get_or-set_other given place j (Some f) None other) ∙ at))
    ]

    equal_there : (x : SignalSet) (s : Values) (j : ℕ) → length x ≡ c.variables → j < count → read_given c (slice_index_or (set given place (Some f)) j None) (bit_of s j) x ≡ read_bit (drop k cyclic) (map (has x) (drop k variables)) s j
    equal_there x s j sized below =
        let sized_b : length x ≡ b.variables = sized ∙ made.keeps.variables in
        let rest = read_bit (drop left cyclic) (map (has x) (drop left variables)) s j in
        let first : drop k cyclic ≡ place ∷ drop left cyclic = drop_more cyclic k 0 inside ∙ ap (λ (n : ℕ). place ∷ drop n cyclic) next in
        let second : drop k variables ≡ variable ∷ drop left variables = drop_more variables k 0 (omega (arith, inside)) ∙ ap (λ (n : ℕ). variable ∷ drop n variables) next in
        let right : read_bit (drop k cyclic) (map (has x) (drop k variables)) s j ≡ (if nat_eq place j then has x variable else rest) =
        ap (λ (l : List ℕ). read_bit l (map (has x) (drop k variables)) s j) first ∙ ap (λ (l : List ℕ). read_bit (place ∷ drop left cyclic) (map (has x) l) s j) second in
        elim (cases_eq j place) [
          | inl here ↦
              let own : slice_index_or (set given place (Some f)) j None ≡ Some f = ap (λ (i : ℕ). slice_index_or (set given place (Some f)) i None) here ∙ get_or-set_same given place (Some f) None (omega (arith, before.given_are.sized)) in
              let test : nat_eq place j ≡ true = ap (λ (i : ℕ). nat_eq place i) here ∙ eq_same place in
              ap (λ (o : Option NodeId). read_given c o (bit_of s j) x) own ∙ made.node.denotes x sized
              ∙ sym (right ∙ ap (λ (t : Bool). if t then has x variable else rest) test)
          | inr other ↦
              ap (λ (o : Option NodeId). read_given c o (bit_of s j) x) (get_or-set_other given place j (Some f) None other)
              ∙ given-kept b c (slice_index_or given j None) (bit_of s j) x made.keeps (λ g e. before.given_are.held j g e) sized_b
              ∙ before.given_are.equal x s j sized_b below
              ∙ sym (right ∙ ap (λ (t : Bool). if t then has x variable else rest) (eq_other j place other))
        ]

pub given_whole : {a b : ArenaView} {cyclic variables : List ℕ} {count left : ℕ} {given : List (Option NodeId)} → left ≡ 0 → GivenSoFar a cyclic variables count left b given → GivenAre b cyclic variables count given
given_whole {a} {b} {cyclic} {variables} {count} {left} {given} none before = subst (λ (n : ℕ). GivenAre b (drop n cyclic) (drop n variables) count given) none before.given_are

-- ---- registers

pub record WordsSoFar (arena : ArenaView) (memory : SignalSet → List ℕ) (registers count : ℕ) (words : List (List NodeId)) : Type 0 where
  pub enough : registers ≤ length words
  pub few : length words ≤ count
  pub held : All (IsWord arena) words
  pub equal : (x : SignalSet) (k : ℕ) → length x ≡ arena.variables → k < registers → code_at arena (slice_index_or words k []) x ≡ slice_index_or (memory x) k 0

pub words_begin : {arena : ArenaView} {memory : SignalSet → List ℕ} {registers count : ℕ} {words : List (List NodeId)} → registers ≤ count → DenoteMemory arena words memory registers → WordsSoFar arena memory registers count words
words_begin room is = record { enough = omega (arith, is.sized); few = omega (arith, is.sized); held = all_words is; equal = λ x k sized below. (is.each k below).equal x sized }

pub words_more : {arena : ArenaView} {memory : SignalSet → List ℕ} {registers count : ℕ} {words : List (List NodeId)} {word : List NodeId} → length words < count → IsWord arena word → WordsSoFar arena memory registers count words → WordsSoFar arena memory registers count (words ++ word ∷ [])
words_more {arena} {memory} {registers} {count} {words} {word} room is before = record {
  enough = omega (arith, length-append words (word ∷ []), before.enough);
  few = omega (arith, length-append words (word ∷ []));
  held = λ k d below. elim (cases_lt k (length words)) [
    | inl old ↦ subst (IsWord arena) (sym (get_or_append_left words (word ∷ []) d k old)) (before.held k d old)
    | inr new ↦ subst (IsWord arena) (sym (get_or_at words word [] d k (omega (arith, length-append words (word ∷ []))))) is
  ];
  equal = λ x k sized below. ap (λ (w : List NodeId). code_at arena w x) (get_or_append_left words (word ∷ []) [] k (omega (arith, before.enough))) ∙ before.equal x k sized below;
}

pub words_whole : {arena : ArenaView} {memory : SignalSet → List ℕ} {registers count : ℕ} {words : List (List NodeId)} → count ≤ length words → WordsSoFar arena memory registers count words → WordsAre arena memory registers count words
words_whole full before = record { sized = omega (arith, before.few); held = before.held; equal = before.equal }

-- ---- later arenas

pub inputs_later : {a b : ArenaView} {variables : List ℕ} {count : ℕ} {bits : List NodeId} → Keeps a b → length variables ≤ count → InputsAre a variables count bits → InputsAre b variables count bits
inputs_later {a} {b} {variables} {count} {bits} keeps room is = record {
  sized = is.sized;
  held = held_later a b bits keeps is.held;
  equal = λ x k sized below.
      keeps.denotes (slice_index_or bits k start).0 (is.held k start (omega (arith, is.sized))) x (sized ∙ keeps.variables) ∙ is.equal x k (sized ∙ keeps.variables) below;
}

pub memory_later : {a b : ArenaView} {memory : SignalSet → List ℕ} {registers count : ℕ} {words : List (List NodeId)} → Keeps a b → registers ≤ count → WordsAre a memory registers count words → WordsAre b memory registers count words
memory_later {a} {b} {memory} {registers} {count} {words} keeps room is = record {
  sized = is.sized;
  held = λ k d below. is_word_later keeps (is.held k d below);
  equal = λ x k sized below.
      word-kept a b (slice_index_or words k []) x keeps (is.held k [] (omega (arith, is.sized))) (sized ∙ keeps.variables) ∙ is.equal x k (sized ∙ keeps.variables) below;
}

pub begins : {a b c : ArenaView} {places : Places} {cyclic : List ℕ} {bits words : ℕ} {t : TableView} → length places.inputs.items ≤ bits → length places.regs.items ≤ words
    → WordsAre a (λ x. map (register_at x) places.regs.items) (length places.regs.items) words t.words → Keeps a b → InputsAre b places.inputs.items bits t.bits → Keeps b c → GivenAre c cyclic places.cyclic.items bits t.given → Begins c places cyclic bits words t
begins {a} {b} {c} inputs_fit registers_fit memory first inputs second given = record {
  inputs = inputs_later second inputs_fit inputs;
  given = given;
  words = memory_later (Keeps-trans a b c first second) registers_fit memory;
}
