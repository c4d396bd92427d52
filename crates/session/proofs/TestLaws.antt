-- Lists of tests, and what the header tests say of the number that is remembered.
-- Assumes nothing.
use Rattle.std.proofs.Common.{◌≡◌, ℕ, Bool, true, false, List, [], ◌∷◌, Ok, Err, sym, refl, ◌∙◌}
use Rattle.octets.proofs.BoolLaws.{clash}
use Rattle.message.specs.declared.Task.TheVariants.{DeleteAll, EndOfUpdate}
use Rattle.message.specs.Header.{transaction}
use Rattle.session.specs.declared.Session.{Session}
use Rattle.session.specs.declared.response.Response.{Response}
use Rattle.session.specs.Sessions.{Closed, remembering}
use Rattle.session.specs.Rules.{Test, test, header_tests, Verdict, failed, passed, first_failed, all_pass, heard}
use Rattle.session.specs.Parts.{response_number, Faults}

-- ---- a list of tests

-- where every test holds, what stands behind them decides
pub tests_pass : (ts : List Test) → all_pass ts ≡ true → (v : Verdict) → first_failed ts v ≡ v
unfolding all_pass first_failed
tests_pass [] h v = refl
tests_pass (test true response then ∷ ts) h v = tests_pass ts h v
tests_pass (test false response then ∷ ts) h v = clash false h refl

-- where one fails, it does not
pub tests_fail : (ts : List Test) → all_pass ts ≡ false → (v w : Verdict) → first_failed ts v ≡ first_failed ts w
unfolding all_pass first_failed
tests_fail [] h v w = clash true refl h
tests_fail (test true response then ∷ ts) h v w = tests_fail ts h v w
tests_fail (test false response then ∷ ts) h v w = refl

-- ---- the header tests, and what is remembered

module _ (e : Session) (m : List ℕ) where
  pub heard-old : all_pass (header_tests e m) ≡ false → heard e m ≡ e
  unfolding heard
  heard-old h = simp h

  pub heard-new : all_pass (header_tests e m) ≡ true → heard e m ≡ remembering e (transaction m)
  unfolding heard
  heard-new h = simp h

  pub header_fails : (r : Response) → Faults e m (Err r) → all_pass (header_tests e m) ≡ false
  header_fails r f = go (all_pass (header_tests e m)) refl
    where
      go : (b : Bool) → all_pass (header_tests e m) ≡ b → b ≡ false
      go true q =
          let p : passed EndOfUpdate ≡ failed (response_number r) Closed = sym (tests_pass (header_tests e m) q (passed EndOfUpdate)) ∙ f.by (passed EndOfUpdate) in
          cc
      go false q = refl

  pub header-holds : {none : Unit {0}} → Faults e m (Ok none) → all_pass (header_tests e m) ≡ true
  header-holds f = go (all_pass (header_tests e m)) refl
    where
      go : (b : Bool) → all_pass (header_tests e m) ≡ b → b ≡ true
      go true q = refl
      go false q =
          let p : passed EndOfUpdate ≡ passed DeleteAll =
          sym (f.by (passed EndOfUpdate)) ∙ tests_fail (header_tests e m) q (passed EndOfUpdate) (passed DeleteAll) ∙ f.by (passed DeleteAll) in
          cc
