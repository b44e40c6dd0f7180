-- The clauses of the top call, drawn from how one call ends.
use Rattle.std.proofs.Common.{◌≡◌, ℕ, ◌<◌, List, Some, None, inl, inr, refl, sym, ap, subst, ◌∙◌, arith}
use Rattle.std.proofs.Math.Logic.{∥∥₁_elim}
use Rattle.std.proofs.Props.{props}
use Rattle.std.specs.Prelude.{IfSome, IsSome}
use Rattle.argos_core.specs.Process.{PlainModule}
use Rattle.argos_verdict.specs.Jobs.{IsStopped, IsEnough}
use Rattle.argos_words.specs.Words.{Words}
use Rattle.dd_core.specs.Arenas.{ArenaView}
use Rattle.dd_core.specs.Functions.{need}
use Rattle.instant_check.specs.StateOverlaps.{operations_of}
use Rattle.argos_top.specs.Devices.{Devices}
use Rattle.argos_top.specs.Clauses.{IsDue, ReadsAll, FaultBytes, IsReadFault, BudgetBytes, IsBudget, HasEnough, NoneFails, IsAnswered, ToWrite, IsWriteFault, NothingWritten}
use Rattle.argos_top.specs.Clauses as clause
use Rattle.argos_top.specs.Equivalence.{AreEquivOutOfNodes, of_module, of_comparison, AreEquivEnough}
use Rattle.argos_load.specs.Said.{Answer}
use Rattle.argos_load.specs.Said as said
use Rattle.argos_top.specs.Statuses.{answer_of}
use Rattle.argos_top.specs.inner.Endings.{status_of, Pushes, whole, sink_failed, IsMeant, answer, fault, budget, Ending, meant, no_memory}
use Rattle.argos_top.specs.declared.status.Status.{Status}
use Rattle.argos_top.specs.declared.status.Status.TheVariants.{ReadFault, WriteFault, Budget, OutOfMemory}

-- the status of an answer gives it, and is neither a fault nor want of memory

gives_back : (a : Answer) → answer_of (status_of a) ≡ Some a
gives_back said.Yes = refl
gives_back said.No = refl
gives_back said.Usage = refl
gives_back said.Refused = refl

no_fault : {A : Type 0} (a : Answer) (r : Status) → answer_of r ≡ None → status_of a ≡ r → A
no_fault a r none e = let h : Some a ≡ None = sym (gives_back a) ∙ ap answer_of e ∙ none in cc

module _ (words : Words) (d : Devices) where
  due_meant : (bytes : List ℕ) (follows r : Status) → IsMeant words d bytes follows → Pushes bytes follows d.sink r → IfSome (answer_of r) (IsDue words d)
  due_meant bytes follows r (answer s due reads) (whole is put kept) =
      subst (λ o. IfSome o (IsDue words d)) (sym (ap answer_of is ∙ gives_back s.answer)) (s, refl, due, put)
  due_meant bytes follows r (fault bs f) (whole is put kept) = subst (λ x. IfSome (answer_of x) (IsDue words d)) (sym is) tt
  due_meant bytes follows r (budget arena bs b) (whole is put kept) = subst (λ x. IfSome (answer_of x) (IsDue words d)) (sym is) tt
  due_meant bytes follows r m (sink_failed part is p put rose) = subst (λ x. IfSome (answer_of x) (IsDue words d)) (sym is) tt

  pub due_drawn : (r : Status) → Ending words d r → IfSome (answer_of r) (IsDue words d)
  due_drawn r (meant bytes follows m p) = due_meant bytes follows r m p
  due_drawn r (no_memory n) = subst (λ x. IfSome (answer_of x) (IsDue words d)) (sym n.is) tt

  reads_meant : (bytes : List ℕ) (follows r : Status) → IsMeant words d bytes follows → Pushes bytes follows d.sink r → IfSome (answer_of r) (ReadsAll words d)
  reads_meant bytes follows r (answer s due reads) (whole is put kept) = subst (λ o. IfSome o (ReadsAll words d)) (sym (ap answer_of is ∙ gives_back s.answer)) reads
  reads_meant bytes follows r (fault bs f) (whole is put kept) = subst (λ x. IfSome (answer_of x) (ReadsAll words d)) (sym is) tt
  reads_meant bytes follows r (budget arena bs b) (whole is put kept) = subst (λ x. IfSome (answer_of x) (ReadsAll words d)) (sym is) tt
  reads_meant bytes follows r m (sink_failed part is p put rose) = subst (λ x. IfSome (answer_of x) (ReadsAll words d)) (sym is) tt

  pub reads_drawn : (r : Status) → Ending words d r → IfSome (answer_of r) (ReadsAll words d)
  reads_drawn r (meant bytes follows m p) = reads_meant bytes follows r m p
  reads_drawn r (no_memory n) = subst (λ x. IfSome (answer_of x) (ReadsAll words d)) (sym n.is) tt

  fault_meant : (bytes : List ℕ) (follows r : Status) → IsMeant words d bytes follows → Pushes bytes follows d.sink r → r ≡ ReadFault → IsReadFault words d
  fault_meant bytes follows r (answer s due reads) (whole is put kept) e = no_fault s.answer ReadFault refl (sym is ∙ e)
  fault_meant bytes follows r (fault bs f) (whole is put kept) e = (bs, f, put)
  fault_meant bytes follows r (budget arena bs b) (whole is put kept) e = let h : Budget arena ≡ ReadFault = sym is ∙ e in cc
  fault_meant bytes follows r m (sink_failed part is p put rose) e = let h : WriteFault ≡ ReadFault = sym is ∙ e in cc

  pub read_fault_drawn : (r : Status) → Ending words d r → r ≡ ReadFault → IsReadFault words d
  read_fault_drawn r (meant bytes follows m p) e = fault_meant bytes follows r m p e
  read_fault_drawn r (no_memory n) e = let h : OutOfMemory ≡ ReadFault = sym n.is ∙ e in cc

  to_write : (bytes : List ℕ) (follows : Status) → IsMeant words d bytes follows → ToWrite words d bytes
  to_write bytes follows (answer s due reads) = clause.answer s due
  to_write bytes follows (fault bs f) = clause.fault bs f
  to_write bytes follows (budget arena bs b) = clause.budget arena bs b

  no_write : {A : Type 0} (bytes : List ℕ) (follows : Status) → IsMeant words d bytes follows → follows ≡ WriteFault → A
  no_write bytes follows (answer s due reads) e = no_fault s.answer WriteFault refl e
  no_write bytes follows (fault bs f) e = cc
  no_write bytes follows (budget arena bs b) e = cc

  write_meant : (bytes : List ℕ) (follows r : Status) → IsMeant words d bytes follows → Pushes bytes follows d.sink r → r ≡ WriteFault → IsWriteFault words d
  write_meant bytes follows r m (whole is put kept) e = no_write bytes follows m (sym is ∙ e)
  write_meant bytes follows r m (sink_failed part is p put rose) e = record { rose = rose; whole = bytes; to_write = to_write bytes follows m; part = part; is_part = p; appended = put }

  pub write_fault_drawn : (r : Status) → Ending words d r → r ≡ WriteFault → IsWriteFault words d
  write_fault_drawn r (meant bytes follows m p) e = write_meant bytes follows r m p e
  write_fault_drawn r (no_memory n) e = let h : OutOfMemory ≡ WriteFault = sym n.is ∙ e in cc

  kept_meant : (bytes : List ℕ) (follows r : Status) → Pushes bytes follows d.sink r → (r ≡ WriteFault → ⊥) → d.sink.faults' ≡ d.sink.faults
  kept_meant bytes follows r (whole is put kept) n = kept
  kept_meant bytes follows r (sink_failed part is p put rose) n = absurd (n is)

  pub kept_drawn : (r : Status) → Ending words d r → (r ≡ WriteFault → ⊥) → d.sink.faults' ≡ d.sink.faults
  kept_drawn r (meant bytes follows m p) n = kept_meant bytes follows r p n
  kept_drawn r (no_memory m) n = m.still

  no_want : {A : Type 0} (bytes : List ℕ) (follows : Status) → IsMeant words d bytes follows → follows ≡ OutOfMemory → A
  no_want bytes follows (answer s due reads) e = no_fault s.answer OutOfMemory refl e
  no_want bytes follows (fault bs f) e = cc
  no_want bytes follows (budget arena bs b) e = cc

  nothing_meant : (bytes : List ℕ) (follows r : Status) → IsMeant words d bytes follows → Pushes bytes follows d.sink r → r ≡ OutOfMemory → NothingWritten words d
  nothing_meant bytes follows r m (whole is put kept) e = no_want bytes follows m (sym is ∙ e)
  nothing_meant bytes follows r m (sink_failed part is p put rose) e = let h : WriteFault ≡ OutOfMemory = sym is ∙ e in cc

  pub nothing_drawn : (r : Status) → Ending words d r → r ≡ OutOfMemory → NothingWritten words d
  nothing_drawn r (meant bytes follows m p) e = nothing_meant bytes follows r m p e
  nothing_drawn r (no_memory n) e = record { held = n.held; still = n.still }

  -- a full arena is answered only where a module of the files needs more nodes

  same_arena : (a b : ArenaView) (P : ArenaView → Type 0) → Budget a ≡ Budget b → P a → P b
  same_arena a b P e h = let same : a ≡ b = cc in subst P same h

  budget_meant : (bytes : List ℕ) (follows r : Status) → IsMeant words d bytes follows → Pushes bytes follows d.sink r → (arena : ArenaView) → r ≡ Budget arena → IsBudget words d arena
  budget_meant bytes follows r (answer s due reads) (whole is put kept) arena e = no_fault s.answer (Budget arena) refl (sym is ∙ e)
  budget_meant bytes follows r (fault bs f) (whole is put kept) arena e = let h : ReadFault ≡ Budget arena = sym is ∙ e in cc
  budget_meant bytes follows r (budget own bs b) (whole is put kept) arena e = same_arena own arena (λ a. IsBudget words d a) (sym is ∙ e) (bs, b, put)
  budget_meant bytes follows r m (sink_failed part is p put rose) arena e = let h : WriteFault ≡ Budget arena = sym is ∙ e in cc

  pub budget_drawn : (r : Status) → Ending words d r → (arena : ArenaView) → r ≡ Budget arena → IsBudget words d arena
  budget_drawn r (meant bytes follows m p) arena e = budget_meant bytes follows r m p arena e
  budget_drawn r (no_memory n) arena e = let h : OutOfMemory ≡ Budget arena = sym n.is ∙ e in cc

  -- where the nodes are enough, no job is stopped

  enough_for : (p : PlainModule) (nodes : ℕ) (arena : ArenaView) → IsStopped p nodes arena → IsEnough p nodes → ⊥
  enough_for p nodes arena (inl state) enough =
      let v = state.stopped.variables in
      let n = subst (λ v. nodes < need (operations_of state.rules.transitions v) v) v state.stopped.needed in
      let m = enough.states state.register state.number state.rules state.reached.state state.differ in
      omega (arith, n, m)
  enough_for p nodes arena (inr all) enough = let n = all.below in let m = enough.reactions all.cyclic all.are all.some in omega (arith, n, m)

  enough_bytes : (arena : ArenaView) (bs : List ℕ) → BudgetBytes words d arena bs → HasEnough words d → ⊥
  enough_bytes arena bs (clause.woven c file aspects nodes is takes spent out) h = let o = out h.files h.told in enough_for o.judged nodes arena o.stopped (h.enough c file aspects nodes is takes o.judged o.is)
  enough_bytes arena bs (clause.compared left right cert nodes is spent out) h = enough_compared h.files.file left right cert nodes arena (out h.files h.told) (h.compared left right cert nodes is)
    where
      enough_compared : (files : List ℕ → List ℕ) (left right cert : List ℕ) (nodes : ℕ) (arena : ArenaView) → AreEquivOutOfNodes files left right cert nodes arena → AreEquivEnough files left right cert nodes → ⊥
      enough_compared files left right cert nodes arena (of_module o) enough = enough_for o.judged nodes arena o.stopped (enough.modules o.judged o.is)
      enough_compared files left right cert nodes arena (of_comparison x given stopped) enough =
          ∥∥₁_elim stopped (hlevel props) (λ s. let n = s.below in let m = enough.comparison x s.left_most s.right_most given s.job s.left_bound s.right_bound in omega (arith, n, m))

  fault_rose : (bs : List ℕ) → FaultBytes words d bs → NoneFails words d → ⊥
  fault_rose bs (clause.file c k name is there rose told) none = none.shelf rose
  fault_rose bs (clause.line count taken written simulates rose took fits good) none = none.source rose

  answered : (r : Status) (a : Answer) → answer_of r ≡ Some a → IsAnswered r
  answered r a e = inl (subst IsSome (sym e) refl)

  enough_meant : (bytes : List ℕ) (follows r : Status) → IsMeant words d bytes follows → Pushes bytes follows d.sink r → HasEnough words d → NoneFails words d → IsAnswered r
  enough_meant bytes follows r (answer s due reads) (whole is put kept) h none = answered r s.answer (ap answer_of is ∙ gives_back s.answer)
  enough_meant bytes follows r (fault bs f) (whole is put kept) h none = absurd (fault_rose bs f none)
  enough_meant bytes follows r (budget arena bs b) (whole is put kept) h none = absurd (enough_bytes arena bs b h)
  enough_meant bytes follows r m (sink_failed part is p put rose) h none = absurd (none.sink rose)

  pub enough_drawn : (r : Status) → Ending words d r → HasEnough words d → NoneFails words d → IsAnswered r
  enough_drawn r (meant bytes follows m p) h none = enough_meant bytes follows r m p h none
  enough_drawn r (no_memory n) h none = inr n.is
