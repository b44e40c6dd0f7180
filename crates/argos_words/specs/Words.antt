-- Which words are which command.
use Rattle.std.specs.Prelude.{◌≡◌, ℕ, ◌≤◌, List, [], ◌∷◌, ◌++◌, length, Bool, true, false, not, ◌==◌, IsTrue, codes, bytes_eq, if◌then◌else◌}
use Rattle.std.specs.List.{AllByRecursion}
use Rattle.argos_base.specs.Limits.{node_limit, usual_nodes, sample_limit, aspect_limit}
use Rattle.argos_base.specs.Spelling.{is_digits, number_of, is_one_of}

-- texts, each as its bytes
abbrev pub Words : Type 0
Words = List (List ℕ)

pub data Target : Type 0 where
  Equations CText : Target

pub data Command : Type 0 where
  check : List ℕ → ℕ → Command
  compile : List ℕ → Target → ℕ → Command
  weave : List ℕ → Words → Target → ℕ → Command
  simulate : List ℕ → Words → ℕ → Command
  equiv : List ℕ → List ℕ → List ℕ → ℕ → Command
  sample : ℕ → Command

-- an option's name, and its value
pub record Given : Type 0 where
  pub name : List ℕ
  pub value : List ℕ

-- the word begins with a dash
abbrev pub begins_with_dash : List ℕ → Bool
begins_with_dash [] = false
begins_with_dash (b ∷ bs) = b == 45

-- it doesn't, or is a dash alone
abbrev pub is_plain : List ℕ → Bool
is_plain [] = true
is_plain (b ∷ []) = true
is_plain (b ∷ c ∷ bs) = not (b == 45)

-- no byte is an equals sign
abbrev pub HasNoEquals : List ℕ → Type 0
HasNoEquals = AllByRecursion (λ b. (b == 61) ≡ false)

-- The words after the command are these plain words and these options, each in its order. The words stand in equations, so that a match on it is cheap.
pub data Splits : Words → Words → List Given → Type 0 where
  ended : {words : Words} → words ≡ [] → Splits words [] []
  plain : {words ps : Words} {gs : List Given} (w : List ℕ) (ws : Words) → words ≡ w ∷ ws → IsTrue (is_plain w) → Splits ws ps gs → Splits words (w ∷ ps) gs
  all_plain : {words : Words} (ws : Words) → words ≡ codes "--" ∷ ws → Splits words ws []
  joined : {words ps : Words} {gs : List Given} (g : Given) (ws : Words) → words ≡ (codes "--" ++ g.name ++ codes "=" ++ g.value) ∷ ws → HasNoEquals g.name
      → Splits ws ps gs → Splits words ps (g ∷ gs)
  apart : {words ps : Words} {gs : List Given} (g : Given) (ws : Words) → words ≡ (codes "--" ++ g.name) ∷ g.value ∷ ws → HasNoEquals g.name → 1 ≤ length g.name
      → begins_with_dash g.value ≡ false → Splits ws ps gs → Splits words ps (g ∷ gs)

-- the value of `--nodes`: one to eight digits
pub record IsNodes (value : List ℕ) (n : ℕ) : Type 0 where
  pub digits : IsTrue (is_digits value)
  pub short : length value ≤ 8
  pub number : number_of value ≡ n
  pub least : 2 ≤ n
  pub most : n ≤ node_limit

abbrev pub IsTarget : List ℕ → Target → Type 0
IsTarget value Equations = value ≡ codes "eq"
IsTarget value CText = value ≡ codes "c"

-- the values under a name, in order
abbrev pub values_of : List ℕ → List Given → Words
values_of name [] = []
values_of name (g ∷ gs) = if bytes_eq g.name name then g.value ∷ values_of name gs else values_of name gs

-- each option has one of these names
abbrev pub AreAllowed : Words → List Given → Type 0
AreAllowed names = AllByRecursion (λ g. IsTrue (is_one_of names g.name))

-- the values of `--nodes` give this number: there is none, or one
abbrev pub IsBudget : Words → ℕ → Type 0
IsBudget [] n = n ≡ usual_nodes
IsBudget (v ∷ []) n = IsNodes v n
IsBudget (v ∷ v' ∷ vs) n = ⊥

-- and those of `--to` this target: there is one
abbrev pub IsOneTarget : Words → Target → Type 0
IsOneTarget [] t = ⊥
IsOneTarget (v ∷ []) t = IsTarget v t
IsOneTarget (v ∷ v' ∷ vs) t = ⊥

-- the options are at most `--nodes`
abbrev pub HasNodes : List Given → ℕ → Type 0
HasNodes gs n = AreAllowed (codes "nodes" ∷ []) gs × IsBudget (values_of (codes "nodes") gs) n

-- the options are `--to`, and at most `--nodes` besides
abbrev pub HasTarget : List Given → Target → ℕ → Type 0
HasTarget gs t n = AreAllowed (codes "to" ∷ codes "nodes" ∷ []) gs × IsOneTarget (values_of (codes "to") gs) t × IsBudget (values_of (codes "nodes") gs) n

-- the number of `sample`: one or two digits
pub record IsCount (value : List ℕ) (n : ℕ) : Type 0 where
  pub digits : IsTrue (is_digits value)
  pub short : length value ≤ 2
  pub number : number_of value ≡ n
  pub least : 1 ≤ n
  pub most : n ≤ sample_limit

-- the plain words and the options of a command
abbrev pub HasParts : Command → Words → List Given → Type 0
HasParts (check file nodes) ps gs = (ps ≡ file ∷ []) × HasNodes gs nodes
HasParts (compile file to nodes) ps gs = (ps ≡ file ∷ []) × HasTarget gs to nodes
HasParts (weave file aspects to nodes) ps gs = (ps ≡ file ∷ aspects) × (1 ≤ length aspects) × (length aspects ≤ aspect_limit) × HasTarget gs to nodes
HasParts (simulate file aspects nodes) ps gs = (ps ≡ file ∷ aspects) × (length aspects ≤ aspect_limit) × HasNodes gs nodes
HasParts (equiv left right cert nodes) ps gs = (ps ≡ left ∷ right ∷ cert ∷ []) × HasNodes gs nodes
HasParts (sample n) ps gs = (value : List ℕ) × (ps ≡ value ∷ []) × IsCount value n × (gs ≡ [])

abbrev pub command_word : Command → List ℕ
command_word (check file nodes) = codes "check"
command_word (compile file to nodes) = codes "compile"
command_word (weave file aspects to nodes) = codes "weave"
command_word (simulate file aspects nodes) = codes "simulate"
command_word (equiv left right cert nodes) = codes "equiv"
command_word (sample n) = codes "sample"

-- the words are this command
pub record IsCommand (words : Words) (c : Command) : Type 0 where
  pub after : Words
  pub plains : Words
  pub options : List Given
  pub head : words ≡ command_word c ∷ after
  pub split : Splits after plains options
  pub parts : HasParts c plains options

-- the words are no command
abbrev pub IsUsage : Words → Type 0
IsUsage words = (c : Command) → IsCommand words c → ⊥
