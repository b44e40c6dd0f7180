-- What a shelf tells after some loads.
use Rattle.std.proofs.Common.{◌≡◌, ℕ, zero, suc, ◌+◌, ◌-◌, ◌^◌, ◌≤◌, List, Some, refl, ap, subst, ◌∙◌, arith}
use Rattle.std.specs.Prelude.{min, Bool, IsTrue}
use Rattle.argos_base.specs.Shelves.{Files, after_load, one_more}
use Rattle.argos_load.specs.GivingFiles.{after_loads, HasLoaded}
use Rattle.argos_words.specs.Words.{Words, Command}
use Rattle.argos_top.specs.Clauses.{AreGoodBefore, FailsAt, LeavesInputs, Simulates}
use Rattle.argos_top.specs.Devices.{Devices}

-- the files after so many loads: the same ones, and each load is counted
pub record Loaded (f : Files) (n : ℕ) : Type 0 where
  pub after : Files
  pub is : after_loads n (Some f) ≡ Some after
  pub same : after.file ≡ f.file
  pub faults : after.fails ≡ f.fails
  pub counted : min after.loads (2 ^ 64 - 1) ≡ min (f.loads + n) (2 ^ 64 - 1)
  pub stands : 1 ≤ n → after.loads ≡ min (f.loads + n) (2 ^ 64 - 1)

pub loaded : (f : Files) (n : ℕ) → Loaded f n
loaded f zero = record { after = f; is = refl; same = refl; faults = refl; counted = omega arith; stands = λ some. absurd (omega arith) }
loaded f (suc n) =
    let l = loaded f n in
    record {
      after = record l.after { loads = one_more l.after.loads };
      is = ap after_load l.is;
      same = l.same;
      faults = l.faults;
      counted = let c = l.counted in omega arith;
      stands = λ some. let c = l.counted in omega arith;
    }

-- a load that failed, where the files are told
pub fails_at : (words : Words) (d : Devices) (c : Command) (f : Files) (k : ℕ) (name : List ℕ) → d.shelf.told ≡ Some f → d.shelf.told' ≡ after_loads (k + 1) d.shelf.told
    → ((g : Files) → after_loads k d.shelf.told ≡ Some g → IsTrue (g.fails g.loads name)) → AreGoodBefore f.file c k → (f' : Files) × (d.shelf.told' ≡ Some f') × FailsAt words d f f' c k name
fails_at words d c f k name told counts fails good =
    let before : Loaded f k = loaded f k in
    let behind : Loaded f (k + 1) = loaded f (k + 1) in
    let h : IsTrue (f.fails before.after.loads name) = subst (λ (F : ℕ → List ℕ → Bool). IsTrue (F before.after.loads name)) before.faults (fails before.after (ap (after_loads k) told ∙ before.is)) in (
      behind.after,
      counts ∙ ap (after_loads (k + 1)) told ∙ behind.is,
      record {
        loads = behind.stands (omega arith);
        fails = λ below. let s = behind.stands (omega arith) in let b = before.counted in let e : before.after.loads ≡ f.loads + k = omega arith in subst (λ n. IsTrue (f.fails n name)) e h;
        good = good;
      },
    )

-- no load changes a file

leaves_files : (d : Devices) → HasLoaded d.shelf.told d.shelf.told' → (f : Files) → d.shelf.told ≡ Some f → (f' : Files) × (d.shelf.told' ≡ Some f') × (f'.file ≡ f.file)
leaves_files d h f told = let l = loaded f h.0 in (l.after, h.1 ∙ ap (after_loads h.0) told ∙ l.is, l.same)

pub leaves_simulated : (words : Words) (d : Devices) → HasLoaded d.shelf.told d.shelf.told' → Simulates words → LeavesInputs words d
leaves_simulated words d h simulates = record { files = leaves_files d h; source = λ none. absurd (none simulates) }

pub leaves_unread : (words : Words) (d : Devices) → HasLoaded d.shelf.told d.shelf.told' → d.source.told' ≡ d.source.told → LeavesInputs words d
leaves_unread words d h source = record { files = leaves_files d h; source = λ none. source }

pub leaves_unloaded : (words : Words) (d : Devices) → d.shelf.told' ≡ d.shelf.told → d.source.told' ≡ d.source.told → LeavesInputs words d
leaves_unloaded words d shelf source = record { files = λ f told. (f, shelf ∙ told, refl); source = λ none. source }
