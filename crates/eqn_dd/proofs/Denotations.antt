-- One call after another, and what nodes denote after it.
use Rattle.std.proofs.Common.{◌≡◌, ℕ, zero, suc, ◌+◌, ◌*◌, ◌^◌, ◌<◌, ◌≤◌, List, [], ◌∷◌, Bool, true, false, if◌then◌else◌, length, get_or, refl, ap, ◌∙◌, subst, arith, Result, Ok, Err, IfOk}
use Rattle.std.proofs.Math.Nat.{mul-le-mul_right}
use Rattle.dd_core.specs.declared.nodes.NodeId.{NodeId}
use Rattle.dd_core.specs.declared.errors.DdError.{DdError}
use Rattle.dd_core.specs.declared.errors.DdError.TheVariants.{Budget}
use Rattle.dd_core.specs.Functions.{Function, AreEqual}
use Rattle.dd_core.specs.Diagrams.{node_count}
use Rattle.dd_core.specs.Arenas.{ArenaView, IsArena, Holds, function_of, Keeps, IsNodeOf, Makes, AddsAtMost, HasNoRoom}
use Rattle.dd_core.proofs.Making.{Keeps-refl, function_of-true, function_of-false}
use Rattle.dd_core.proofs.Composing.{Keeps-trans}
use Rattle.dd_core.proofs.Walks.{held_constant}
use Rattle.eqn_completion.specs.Binary.{number}
use Rattle.eqn_dd.specs.Denoting.{Denotes, values_at, code_at, IsWord, DenotesWord}

-- ---- how many nodes are added

pub adds_nothing : (n : ℕ) (arena : ArenaView) → IsArena arena → AddsAtMost n arena arena
adds_nothing n arena valid = record { was = valid; arena = valid; keeps = Keeps-refl arena; few = omega arith }

pub adds_in_turn : (i j n : ℕ) {a b c : ArenaView} → i + j ≤ n → AddsAtMost i a b → AddsAtMost j b c → AddsAtMost n a c
adds_in_turn i j n {a} {b} {c} fits first second =
    let most = 2 ^ (a.variables + 1) in
    let later : node_count c.nodes ≤ node_count b.nodes + j * most = subst (λ v. node_count c.nodes ≤ node_count b.nodes + j * 2 ^ (v + 1)) first.keeps.variables second.few in
    let p : (i + j) * most ≤ n * most = mul-le-mul_right most fits in
    let q : (i + j) * most ≡ i * most + j * most = omega arith in
    record {
      was = first.was;
      arena = second.arena;
      keeps = Keeps-trans a b c first.keeps second.keeps;
      few = omega (arith, first.few, later, p, q);
    }

pub adds_fewer : (i n : ℕ) {a b : ArenaView} → i ≤ n → AddsAtMost i a b → AddsAtMost n a b
adds_fewer i n {a} {b} fits adds =
    let p : i * 2 ^ (a.variables + 1) ≤ n * 2 ^ (a.variables + 1) = mul-le-mul_right (2 ^ (a.variables + 1)) fits in
    record { was = adds.was; arena = adds.arena; keeps = adds.keeps; few = omega (arith, adds.few, p) }

-- one operation
pub adds_one : {a b : ArenaView} {g : Function} {result : Result NodeId DdError} → Makes (2 ^ (a.variables + 1)) a b g result → AddsAtMost 1 a b
adds_one made = record { was = made.was; arena = made.arena; keeps = made.keeps; few = omega (arith, made.few) }

pub no_room : {m : ℕ} {a b : ArenaView} {g : Function} {result : Result NodeId DdError} → Makes m a b g result → result ≡ Err Budget → HasNoRoom b
no_room made is = let l = made.lacks is in record { full = made.full is; lacks = record { function = l.cofactor; lacks = l.lacks } }

-- ---- what nodes denote

pub denotes_equal : {arena : ArenaView} {f : ℕ} {g h : Function} → AreEqual arena.variables g h → Denotes arena f g → Denotes arena f h
denotes_equal equal is = record { held = is.held; equal = λ x sized. is.equal x sized ∙ equal x sized }

pub denotes_later : {a b : ArenaView} {f : ℕ} {g : Function} → Keeps a b → Denotes a f g → Denotes b f g
denotes_later {a} {b} {f} keeps is = record {
  held = keeps.held f is.held;
  equal = λ x sized. let here = sized ∙ keeps.variables in keeps.denotes f is.held x here ∙ is.equal x here;
}

pub denotes_itself : (arena : ArenaView) (f : ℕ) → Holds arena f → Denotes arena f (function_of arena f)
denotes_itself arena f held = record { held = held; equal = λ x sized. refl }

pub denotes_made : {m : ℕ} {a b : ArenaView} {g : Function} {result : Result NodeId DdError} → Makes m a b g result → IfOk result (λ f. Denotes b f.0 g)
denotes_made {m} {a} {b} {g} {result} made = of_result result made.node
  where
    of_result : (r : Result NodeId DdError) → IfOk r (λ f. IsNodeOf b g f.0) → IfOk r (λ f. Denotes b f.0 g)
    of_result (Ok f) is = record { held = is.held; equal = is.denotes }
    of_result (Err e) is = tt

-- the constants
pub denotes_constant : (arena : ArenaView) (f : ℕ) (b : Bool) → IsArena arena → f ≡ (if b then 1 else 0) → Denotes arena f (λ x. b)
denotes_constant arena f true valid is = record { held = held_constant arena.nodes f (omega arith); equal = λ x sized. ap (λ g. function_of arena g x) is ∙ function_of-true arena x valid }
denotes_constant arena f false valid is = record { held = held_constant arena.nodes f (omega arith); equal = λ x sized. ap (λ g. function_of arena g x) is ∙ function_of-false arena x valid }

-- ---- words

pub values-kept : (a b : ArenaView) (word : List NodeId) (x : List Bool) → Keeps a b → ((k : ℕ) (d : NodeId) → k < length word → Holds a (get_or word k d).0) → length x ≡ a.variables → values_at b word x ≡ values_at a word x
values-kept a b [] x keeps held sized = refl
values-kept a b (f ∷ word) x keeps held sized =
    ap (λ (t : Bool). t ∷ values_at b word x) (keeps.denotes f.0 (held 0 f (omega arith)) x sized)
    ∙ ap (λ (l : List Bool). function_of a f.0 x ∷ l) (values-kept a b word x keeps (λ k d below. held (suc k) d (omega arith)) sized)

-- the digit at a place of a word
pub value-at_place : (arena : ArenaView) (word : List NodeId) (x : List Bool) (k : ℕ) (d : NodeId) → k < length word → get_or (values_at arena word x) k false ≡ function_of arena (get_or word k d).0 x
value-at_place arena [] x k d below = absurd (omega arith)
value-at_place arena (f ∷ word) x zero d below = refl
value-at_place arena (f ∷ word) x (suc k) d below = value-at_place arena word x k d (omega arith)

pub made_equal : {m : ℕ} {a b : ArenaView} {g h : Function} {result : Result NodeId DdError} → Makes m a b g result → AreEqual a.variables g h → IfOk result (λ f. Denotes b f.0 h)
made_equal {m} {a} {b} {g} {h} {result} made equal = of_result result made.node
  where
    of_result : (r : Result NodeId DdError) → IfOk r (λ f. IsNodeOf b g f.0) → IfOk r (λ f. Denotes b f.0 h)
    of_result (Ok f) is = record { held = is.held; equal = λ x sized. is.denotes x sized ∙ equal x (sized ∙ made.keeps.variables) }
    of_result (Err e) is = tt

pub word-kept : (a b : ArenaView) (word : List NodeId) (x : List Bool) → Keeps a b → IsWord a word → length x ≡ a.variables → code_at b word x ≡ code_at a word x
word-kept a b word x keeps is sized = ap number (values-kept a b word x keeps is.held sized)

pub is_word_later : {a b : ArenaView} {word : List NodeId} → Keeps a b → IsWord a word → IsWord b word
is_word_later {a} {b} {word} keeps is = record { sized = is.sized; held = λ k d below. keeps.held (get_or word k d).0 (is.held k d below) }

pub denotes_word_later : {a b : ArenaView} {word : List NodeId} {g : List Bool → ℕ} → Keeps a b → DenotesWord a word g → DenotesWord b word g
denotes_word_later {a} {b} {word} keeps is = record {
  is_word = is_word_later keeps is.is_word;
  equal = λ x sized. let here = sized ∙ keeps.variables in word-kept a b word x keeps is.is_word here ∙ is.equal x here;
}

pub denotes_word_equal : {arena : ArenaView} {word : List NodeId} {g h : List Bool → ℕ} → ((x : List Bool) → length x ≡ arena.variables → g x ≡ h x) → DenotesWord arena word g → DenotesWord arena word h
denotes_word_equal equal is = record { is_word = is.is_word; equal = λ x sized. is.equal x sized ∙ equal x sized }
