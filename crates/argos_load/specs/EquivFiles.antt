-- What the files of two programs and of a certificate give, or what is said of them. Source: this project.
use Rattle.std.specs.Prelude.{◌≡◌, ℕ, zero, suc, List}
use Rattle.argos_core.specs.Process.{PlainModule}
use Rattle.argos_grammar.specs.DueSymbols as symbols
use Rattle.argos_grammar.specs.Faults.{Kind, FirstFault}
use Rattle.argos_grammar.specs.Forms.{CertForm}
use Rattle.argos_grammar.specs.Text.{IsCertText}
use Rattle.argos_scope.specs.Meaning.{Means}
use Rattle.argos_verdict.specs.Jobs.{IsStopped}
use Rattle.bisim_formula.specs.Certificates.{CertFault, cert_answer}
use Rattle.bisim_formula.specs.Certificates as certificates
use Rattle.bisim_formula.specs.Formulas.{Formula}
use Rattle.dd_core.specs.Arenas.{ArenaView}
use Rattle.argos_load.specs.Programs.{TextOf, ProgramOf}
use Rattle.argos_load.specs.Reports.{fault_text, cert_fault_text}
use Rattle.argos_load.specs.Said.{Refused, said}
use Rattle.argos_load.specs.Stages.{Stage, gives, says, ◌then◌}

-- two programs, and the formula that a certificate says of them
pub record Comparison : Type 0 where
  pub left : PlainModule
  pub right : PlainModule
  pub formula : Formula

abbrev pub comparison : PlainModule → PlainModule → Formula → Comparison
comparison P Q F = record { left = P; right = Q; formula = F }

-- the tree of file k, which is a certificate
pub data CertTreeOf (k : ℕ) (text : List ℕ) : Stage CertForm → Type 0 where
  tree : (t : CertForm) → IsCertText text t → CertTreeOf k text (gives t)
  fault : (at : ℕ) (kind : Kind) → FirstFault symbols.cert text at kind → CertTreeOf k text (says (said Refused (fault_text k at kind)))

-- the formula that the tree says of two programs
pub data CertOver (k : ℕ) (P Q : PlainModule) (t : CertForm) : Stage Formula → Type 0 where
  formula : (F : Formula) → cert_answer P Q t ≡ certificates.says F → CertOver k P Q t (gives F)
  fault : (f : CertFault) → cert_answer P Q t ≡ certificates.refused f → CertOver k P Q t (says (said Refused (cert_fault_text k f)))

-- the formula that file k, which has these bytes, says of two programs
abbrev pub CertFile : ℕ → PlainModule → PlainModule → List ℕ → Stage Formula → Type 0
CertFile k P Q bs = TextOf k bs then λ text. CertTreeOf k text then CertOver k P Q

-- where each file name has this file, the programs of files 1 and 2, and the certificate of file 3
module _ (files : List ℕ → List ℕ) (left right cert : List ℕ) where
  abbrev pub EquivOf : Stage Comparison → Type 0
  EquivOf = ProgramOf 1 (files left) then λ P. ProgramOf 2 (files right) then λ Q. CertFile 3 P Q (files cert) then λ F r. r ≡ gives (comparison P Q F)

  -- the files at the places before k, counted from 0, are good
  abbrev pub AreGoodCompared : ℕ → Type 0
  AreGoodCompared zero = Unit {0}
  AreGoodCompared (suc zero) = (P : PlainModule) × ProgramOf 1 (files left) (gives P)
  AreGoodCompared (suc (suc k)) = (P Q : PlainModule) × ProgramOf 1 (files left) (gives P) × ProgramOf 2 (files right) (gives Q)

  -- a module that is judged: that of file 1, or that of file 2 behind a good file
  pub data IsComparedModule : PlainModule → Type 0 where
    of_left : (p : PlainModule) → Means (files left) p → IsComparedModule p
    of_right : (P p : PlainModule) → ProgramOf 1 (files left) (gives P) → Means (files right) p → IsComparedModule p

  -- a job of one of these modules found no room in this arena, within so many nodes
  pub record AreComparedOutOfNodes (nodes : ℕ) (arena : ArenaView) : Type 0 where
    pub judged : PlainModule
    pub is : IsComparedModule judged
    pub stopped : IsStopped judged nodes arena
