-- A comparison of two programs: how it ends, and what follows where it says yes.
use Rattle.std.proofs.Common.{Err, List, Option, Some, [], ◌∷◌, ap, append_assoc, arith, refl, subst, sym, ℕ, ◌+◌, ◌*◌, ◌^◌, ◌∙◌, ◌≡◌, ◌<◌, ◌≤◌, min}
use Rattle.std.proofs.Math.Nat.{mul-le-mul_right}
use Rattle.std.proofs.lemmas.Fmt.{decimal_digit}
use Rattle.std.proofs.Math.Logic.{∥∥₁_prop, ∥∥₁_map, ∥∥₁_elim}
use Rattle.std.proofs.Props.{props}
use Rattle.std.specs.Prelude.{IfSome, decimal, codes, ◌++◌}
use Rattle.argos_base.specs.Names.{Spelled}
use Rattle.argos_base.specs.Shelves.{Files}
use Rattle.argos_base.specs.SignalSets.{SignalSet}
use Rattle.argos_compile.specs.Accepting.{IsAccepted}
use Rattle.argos_congruence.specs.Congruence.{AreEqualUnderAspects}
use Rattle.argos_congruence.specs.NamedSets.{AllSameByName}
use Rattle.argos_core.specs.Process.{PlainModule}
use Rattle.argos_core.specs.Reactions.{output_count}
use Rattle.argos_grammar.specs.Forms.{CertForm}
use Rattle.argos_load.specs.Calls.{Call}
use Rattle.argos_load.specs.EquivFiles.{Comparison, comparison, CertTreeOf, CertOver, CertFile, EquivOf, AreGoodCompared, AreComparedOutOfNodes}
use Rattle.argos_load.specs.EquivFiles as equiv_files
use Rattle.argos_load.specs.Giving.{comparison_of, IsSpent}
use Rattle.argos_load.specs.GivingFiles.{IsFilesStage}
use Rattle.argos_load.specs.Programs.{TextOf, too_long, ModuleOf, fault, scope, AcceptedOf, overlap, bad_case, too_wide, ProgramOf}
use Rattle.argos_load.specs.Said.{Yes, Said}
use Rattle.argos_load.specs.Stages.{Stage, gives, says, ◌then◌, Ends}
use Rattle.argos_load.specs.declared.stop.Stop as early
use Rattle.argos_report.specs.Reports.{budget_text, variables_text}
use Rattle.argos_scope.specs.Meaning.{Means}
use Rattle.argos_scope.proofs.OneMeaning.{means_once}
use Rattle.argos_words.specs.Words.{Words, equiv, IsCommand}
use Rattle.argos_words.proofs.OneCommand.{one_command}
use Rattle.bisim_check.specs.Jobs.{IsStopped, job_size, job_variables}
use Rattle.bisim_formula.specs.Formulas.{Formula, formula_size}
use Rattle.bisim_verdict.specs.Bisimulation.{EquivAnswer, accept, interfaces, start, outputs, leaves}
use Rattle.bisim_verdict.specs.Counts.{counted_operations}
use Rattle.bisim_verdict.proofs.Accepted.{accepted_are_equal}
use Rattle.dd_core.specs.Arenas.{ArenaView}
use Rattle.dd_core.specs.Functions.{need}
use Rattle.eqn_core.specs.Equations.{Equations, weight_of}
use Rattle.argos_top.specs.Clauses.{AreCongruent, DueWhereTold, Loads, Simulates, TellsInput}
use Rattle.argos_top.specs.Clauses as clause
use Rattle.argos_top.specs.Devices.{Devices}
use Rattle.argos_top.specs.Due.{command, usage, SaidBy, Due}
use Rattle.argos_top.specs.Equivalence.{Compared, answered, said_of, comparison_need, bounded_size, IsComparisonStopped, AreEquivOutOfNodes, of_module, of_comparison}
use Rattle.argos_top.specs.Equivalence as compared
use Rattle.argos_top.specs.Statuses.{answer_of}
use Rattle.argos_top.specs.inner.Comparing.{Compares, untold, told, stopped}
use Rattle.argos_top.specs.inner.Endings.{status_of, Pushes, answer, budget, Ending, meant, no_memory, Reports}
use Rattle.argos_top.specs.declared.status.Status.{Status}
use Rattle.argos_top.specs.declared.status.Status.TheVariants as status
use Rattle.argos_top.proofs.Clauses.{due_drawn}
use Rattle.argos_top.proofs.Given.{IsGiven, given, given_means}
use Rattle.argos_top.proofs.Runs.{files_due, ending_stopped, simulates_none}

-- what a job needs grows with the operations

need_grows : (k n v : ℕ) → k ≤ n → need k v ≤ need n v
need_grows k n v h = let p : k * 2 ^ (v + 1) ≤ n * 2 ^ (v + 1) = mul-le-mul_right (2 ^ (v + 1)) h in least_grows (2 ^ 2 ^ v) (k * 2 ^ (v + 1)) (n * 2 ^ (v + 1)) p
  where
    least_grows : (c a b : ℕ) → a ≤ b → min c a ≤ min c b
    least_grows c a b h = omega (arith, h)

operations_grow : (w w' v rest : ℕ) → w ≤ w' → 4 * w * (v + 16) + rest ≤ 4 * w' * (v + 16) + rest
operations_grow w w' v rest h =
    let four : 4 * w ≤ 4 * w' = omega (arith, h) in
    let p : 4 * w * (v + 16) ≤ 4 * w' * (v + 16) = mul-le-mul_right (v + 16) four in
    omega (arith, p)

sums : (a b c d : ℕ) → a ≤ c → b ≤ d → a + b ≤ c + d
sums a b c d h k = omega (arith, h, k)

below_all : (n m k : ℕ) → n < m → m ≤ k → n < k
below_all n m k h g = omega (arith, h, g)

-- the job of the code needs no more than the bounds on lines say
pub comparison_stopped : (x : Comparison) (E G : Equations) (left_most right_most nodes : ℕ) (arena : ArenaView) → ∥ IsAccepted x.left E left_most ∥₁ → ∥ IsAccepted x.right G right_most ∥₁ → ∥ IsStopped x.formula x.left x.right E G nodes arena ∥₁
    → ∥ IsComparisonStopped x nodes arena ∥₁
comparison_stopped x E G left_most right_most nodes arena left right stop =
    ∥∥₁_elim left ∥∥₁_prop (λ a. ∥∥₁_elim right ∥∥₁_prop (λ b. ∥∥₁_map stop (λ s. record {
      job = s.job;
      variables_are = s.variables_are;
      lacks = s.lacks;
      left_most = left_most;
      right_most = right_most;
      left_bound = a.bound;
      right_bound = b.bound;
      below =
          let v = job_variables x.left x.right in
          let w : weight_of E + weight_of G ≤ 4 * left_most + 4 * right_most = sums (weight_of E) (weight_of G) (4 * left_most) (4 * right_most) a.weight b.weight in
          let few : counted_operations (job_size x.formula x.left x.right E G) ≤ counted_operations (bounded_size x left_most right_most) =
          operations_grow (weight_of E + weight_of G) (4 * left_most + 4 * right_most) v (16 * (output_count x.left + formula_size x.formula + v + 16) ^ 2) w
          in
          below_all nodes (need (counted_operations (job_size x.formula x.left x.right E G)) v) (comparison_need x left_most right_most) s.below (need_grows (counted_operations (job_size x.formula x.left x.right E G)) (counted_operations (bounded_size x left_most right_most)) v few);
    })))

-- what its arena is told as
pub job_spent : (F : Formula) (P Q : PlainModule) (E G : Equations) (nodes : ℕ) (arena : ArenaView) → ∥ IsStopped F P Q E G nodes arena ∥₁ → IsSpent nodes (budget_text nodes) arena
job_spent F P Q E G nodes arena stop = record { text_is = refl; budget = ∥∥₁_elim stop (hlevel props) (λ s. s.budget_is); full = ∥∥₁_elim stop (hlevel props) (λ s. s.full) }

-- the reports that are written as two texts around a number

variables_joined : (n : ℕ) → codes "refused: file 3: " ++ (decimal n ++ codes " variables\n") ≡ variables_text 3 n
variables_joined n =
    ap (λ z. codes "refused: file 3: " ++ z) (sym (append_assoc (decimal n) (codes " variables") (10 ∷ []))) ∙ sym (append_assoc (codes "refused: file 3: ") (decimal n ++ codes " variables") (10 ∷ []))
    ∙ ap (λ three. codes "refused: file " ++ three ++ codes ": " ++ (decimal n ++ codes " variables") ++ 10 ∷ []) (sym (decimal_digit 3 (omega arith)))

budget_joined : (n : ℕ) → codes "budget: " ++ (decimal n ++ codes " nodes\n") ≡ budget_text n
budget_joined n = sym (append_assoc (codes "budget: ") (decimal n) (codes " nodes\n")) ∙ sym (append_assoc (codes "budget: " ++ decimal n) (codes " nodes") (10 ∷ []))

pub pushes_budget : (n m : ℕ) (follows : Status) (sink : Call (Option (List ℕ))) (r : Status) → m ≡ n → Pushes (codes "budget: " ++ (decimal m ++ codes " nodes\n")) follows sink r → Pushes (budget_text n) follows sink r
pushes_budget n m follows sink r same h = subst (λ k. Pushes (budget_text k) follows sink r) same (subst (λ b. Pushes b follows sink r) (budget_joined m) h)

pub pushes_variables : (n m : ℕ) (follows : Status) (sink : Call (Option (List ℕ))) (r : Status) → m ≡ n → Pushes (codes "refused: file 3: " ++ (decimal m ++ codes " variables\n")) follows sink r → Pushes (variables_text 3 n) follows sink r
pushes_variables n m follows sink r same h = subst (λ k. Pushes (variables_text 3 k) follows sink r) same (subst (λ b. Pushes b follows sink r) (variables_joined m) h)

-- what was found of modules that are these
pub pushes_of : (P P' Q Q' : PlainModule) (a : EquivAnswer) (sink : Call (Option (List ℕ))) (r : Status) → P ≡ P' → Q ≡ Q' → Pushes (said_of P Q a).bytes (status_of (said_of P Q a).answer) sink r → Pushes (said_of P' Q' a).bytes (status_of (said_of P' Q' a).answer) sink r
pushes_of P P' Q Q' a sink r left right h =
    subst (λ z. Pushes (said_of P' z a).bytes (status_of (said_of P' z a).answer) sink r) right (subst (λ z. Pushes (said_of z Q a).bytes (status_of (said_of z Q a).answer) sink r) left h)

-- how the command ends

module _ (words : Words) (d : Devices) (left right cert : List ℕ) (nodes : ℕ) (is : IsCommand words (equiv left right cert nodes)) where
  abbrev names : Words
  names = left ∷ right ∷ cert ∷ []

  unsimulated : Simulates words → ⊥
  unsimulated = simulates_none words (equiv left right cert nodes) is refl

  pub ending_uncompared : (e : early.Stop) (r : Status) → IsFilesStage comparison_of (Err e) nodes names d.shelf (λ files. EquivOf files left right cert) (λ files. AreGoodCompared files left right cert) (λ files. AreComparedOutOfNodes files left right cert nodes)
      → Reports e d.sink r → Ending words d r
  ending_uncompared e r stage w =
      ending_stopped words d (equiv left right cert nodes) names nodes is refl (omega arith) (λ files. AreGoodCompared files left right cert) (λ files. AreComparedOutOfNodes files left right cert nodes) comparison_of (λ files. EquivOf files left right cert)
      (λ f input s h. (says s, h, refl)) (λ files k good. clause.compared left right cert nodes refl good) (λ arena bs spent out. clause.compared left right cert nodes is spent (λ f t. of_module (out f t))) e r stage w

  pub ending_compared : (x : Comparison) (r : Status) → ((f : Files) → d.shelf.told ≡ Some f → EquivOf f.file left right cert (gives x)) → Compares x nodes d.sink r → Ending words d r
  ending_compared x r good (untold n) = no_memory n
  ending_compared x r good (told s h w) =
      let due = files_due words d (equiv left right cert nodes) names nodes is refl (omega arith) (λ files. AreGoodCompared files left right cert) (λ files. AreComparedOutOfNodes files left right cert nodes) in
      meant s.bytes _ (answer s (due s (λ f input t. (gives x, good f t, h))) (λ simulated is_yes. absurd (unsimulated simulated))) w
  ending_compared x r good (stopped arena bs spent stop w) = meant bs _ (budget arena bs (clause.compared left right cert nodes is spent (λ f t. of_comparison x (good f t) stop))) w

-- what ends a call before its job isn't yes

abbrev IsNeverYes : {V : Type 0} → (Stage V → Type 0) → Type 0
IsNeverYes P = (s : Said) → P (says s) → s.answer ≡ Yes → ⊥

never_then : {A B : Type 0} (first : Stage A → Type 0) (next : A → Stage B → Type 0) → IsNeverYes first → ((a : A) → IsNeverYes (next a)) → IsNeverYes (first then next)
never_then first next here there s (gives a, h, g) e = there a s g e
never_then {A} {B} first next here there s (says u, h, g) e = here u h (let same : ◌≡◌ {A = Stage B} (says s) (says u) = g in let t : s ≡ u = cc in ap (λ (z : Said). z.answer) (sym t) ∙ e)

text_never : (k : ℕ) (bs : List ℕ) → IsNeverYes (TextOf k bs)
text_never k bs s (too_long h) e = cc

module_never : (k : ℕ) (text : List ℕ) → IsNeverYes (ModuleOf k text)
module_never k text s (fault at kind h) e = cc
module_never k text s (scope t f h g) e = cc

accepted_never : (k : ℕ) (p : PlainModule) → IsNeverYes (AcceptedOf k p)
accepted_never k p s (overlap r q x y S h) e = cc
accepted_never k p s (bad_case m i f h) e = cc
accepted_never k p s (too_wide n h) e = cc

program_never : (k : ℕ) (bs : List ℕ) → IsNeverYes (ProgramOf k bs)
program_never k bs = never_then (TextOf k bs) (λ text. ModuleOf k text then AcceptedOf k) (text_never k bs) (λ text. never_then (ModuleOf k text) (AcceptedOf k) (module_never k text) (accepted_never k))

tree_never : (k : ℕ) (text : List ℕ) → IsNeverYes (CertTreeOf k text)
tree_never k text s (equiv_files.fault at kind h) e = cc

over_never : (k : ℕ) (P Q : PlainModule) (t : CertForm) → IsNeverYes (CertOver k P Q t)
over_never k P Q t s (equiv_files.fault f h) e = cc

cert_never : (k : ℕ) (P Q : PlainModule) (bs : List ℕ) → IsNeverYes (CertFile k P Q bs)
cert_never k P Q bs = never_then (TextOf k bs) (λ text. CertTreeOf k text then CertOver k P Q) (text_never k bs) (λ text. never_then (CertTreeOf k text) (CertOver k P Q) (tree_never k text) (over_never k P Q))

module _ (files : List ℕ → List ℕ) (left right cert : List ℕ) where
  equiv_never : IsNeverYes (EquivOf files left right cert)
  equiv_never =
      never_then (ProgramOf 1 (files left)) (λ P. ProgramOf 2 (files right) then λ Q. CertFile 3 P Q (files cert) then λ F r. r ≡ gives (comparison P Q F)) (program_never 1 (files left)) (λ P.
      never_then (ProgramOf 2 (files right)) (λ Q. CertFile 3 P Q (files cert) then λ F r. r ≡ gives (comparison P Q F)) (program_never 2 (files right)) (λ Q.
      never_then (CertFile 3 P Q (files cert)) (λ F r. r ≡ gives (comparison P Q F)) (cert_never 3 P Q (files cert)) (λ F s h e. cc)))

  -- both programs of a comparison are those that the files mean, and are accepted
  pub record AreGivenCompared (x : Comparison) : Type 0 where
    pub left_is : ProgramOf 1 (files left) (gives x.left)
    pub right_is : ProgramOf 2 (files right) (gives x.right)

  pub given_compared : (x : Comparison) → EquivOf files left right cert (gives x) → AreGivenCompared x
  given_compared x (gives P, hP, (gives Q, hQ, (gives F, hF, e))) = let same : comparison P Q F ≡ x = cc in subst (λ (z : Comparison). AreGivenCompared z) same (record { left_is = hP; right_is = hQ })
  given_compared x (gives P, hP, (gives Q, hQ, (says s, hF, e))) = cc
  given_compared x (gives P, hP, (says s, hQ, e)) = cc
  given_compared x (says s, hP, e) = cc

-- where a comparison says yes, the programs are equal under aspects

compared_yes : (x : Comparison) (s : Said) → IsGiven x.left → IsGiven x.right → Compared x s → s.answer ≡ Yes → ∥ AreEqualUnderAspects x.left x.right ∥₁
compared_yes x s g h (answered accept a fits) e = ∥∥₁_map a (λ i. (accepted_are_equal x.formula x.left x.right g.acceptable.good h.acceptable.good i).0)
compared_yes x s g h (answered (interfaces name) a fits) e = cc
compared_yes x s g h (answered start a fits) e = cc
compared_yes x s g h (answered (outputs m n i name) a fits) e = cc
compared_yes x s g h (answered (leaves m n i) a fits) e = cc
compared_yes x s g h (compared.too_wide n a is b) e = cc

ends_yes : (files : List ℕ → List ℕ) (left right cert : List ℕ) (y : Stage Comparison) (s : Said) → EquivOf files left right cert y → Ends Compared y s → s.answer ≡ Yes → (P Q : PlainModule) → Means (files left) P → Means (files right) Q → ∥ AreEqualUnderAspects P Q ∥₁
ends_yes files left right cert (gives x) s h c e P Q mP mQ =
    let g = given_compared files left right cert x h in
    let sameP : x.left ≡ P = means_once (files left) x.left P (given_means 1 (files left) x.left g.left_is).0 mP in
    let sameQ : x.right ≡ Q = means_once (files right) x.right Q (given_means 2 (files right) x.right g.right_is).0 mQ in
    subst (λ z. ∥ AreEqualUnderAspects P z ∥₁) sameQ (subst (λ z. ∥ AreEqualUnderAspects z x.right ∥₁) sameP (compared_yes x s (given 1 (files left) x.left g.left_is) (given 2 (files right) x.right g.right_is) c e))
ends_yes files left right cert (says u) s h c e P Q mP mQ = absurd (equiv_never files left right cert u h (ap (λ (z : Said). z.answer) (sym c) ∙ e))

due_yes : (words : Words) (files : List ℕ → List ℕ) (left right cert : List ℕ) (nodes : ℕ) (s : Said) → IsCommand words (equiv left right cert nodes) → Due files [] words s → s.answer ≡ Yes → (P Q : PlainModule) → Means (files left) P → Means (files right) Q → ∥ AreEqualUnderAspects P Q ∥₁
due_yes words files left right cert nodes s is (gives c, command c' is', h) e P Q mP mQ =
    let k : SaidBy files [] (equiv left right cert nodes) s = subst (λ z. SaidBy files [] z s) (one_command words c (equiv left right cert nodes) is' is) h in
    ends_yes files left right cert k.0 s k.1 k.2 e P Q mP mQ
due_yes words files left right cert nodes s is (says u, usage none, h) e P Q mP mQ = absurd (none (equiv left right cert nodes) is)

-- sets that are the same by name are so in one way

all_same_prop : (from to : List Spelled) (vs ws : List SignalSet) → IsProp (AllSameByName from to vs ws)
all_same_prop from to [] [] = hlevel props
all_same_prop from to [] (w ∷ ws) = hlevel props
all_same_prop from to (v ∷ vs) [] = hlevel props
all_same_prop from to (v ∷ vs) (w ∷ ws) = hlevel (props, all_same_prop from to vs ws)

are_equal : (P Q : PlainModule) → ∥ AreEqualUnderAspects P Q ∥₁ → AreEqualUnderAspects P Q
are_equal P Q h aspects inputs others outs answers fit same trace trace' = ∥∥₁_elim h (all_same_prop P.outputs Q.outputs outs answers) (λ e. e aspects inputs others outs answers fit same trace trace')

pub congruent_drawn : (words : Words) (d : Devices) (r : Status) → Ending words d r → r ≡ status.Yes → AreCongruent words d
congruent_drawn words d r ending is_yes left right cert nodes f P Q is there mP mQ =
    let due : clause.IsDue words d Yes = subst (λ (z : Status). IfSome (answer_of z) (clause.IsDue words d)) is_yes (due_drawn words d r ending) in
    are_equal P Q (due_yes words f.file left right cert nodes due.0 is (due.2 f [] (λ _. there) (λ simulated. absurd (simulates_none words (equiv left right cert nodes) is refl simulated))) due.1 P Q mP mQ)
