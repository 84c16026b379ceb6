-- Demands 2 and 3 of a call that takes a valid polygon through its stages, whichever call it is. Assumes nothing.
use mathlib.Core.Path.{◌≡◌, refl, sym, ap, ◌∙◌, subst}
use lib.ListN.{length}
use Rattle.jobs.specs.Job.{Job, job_of}
use Rattle.lists.proofs.Writing.{filled_take}
use Rattle.polygon.specs.declared.Polygon.{Polygon}
use Rattle.polygon.specs.Polygon.{ValidPolygon}
use Rattle.delaunay.specs.Candidates.{candidates_of}
use Rattle.triangulation.specs.Triangulations.{ValidProblem, Answer, best}
use Rattle.triangulation.specs.Problems.{problem_of}
use Rattle.triangulation.specs.Demand3.{Demand3}
use Rattle.triangulation.proofs.Demand3.{demand3}
use Rattle.triangulator.specs.Demands.{Handed}
use Rattle.triangulator.proofs.Demands.{settled_states, settled_handed, settled_rest}
use Rattle.pipeline.specs.Patching.{Tables, Patching, weights_in, rows_in, problem_in, patched, job_in, handed_back}
use Rattle.pipeline.proofs.Values.{valid_job}
use Rattle.pipeline.proofs.Accepted.{weight_count}
use Rattle.demands.specs.Demand3.{ListsLeft, candidates_left_of, weights_left, rows_left_of, job_left, problem_left, answer_in}
use Rattle.demands.specs.Demand3.{RightOfTables, HandedOfTables, RestOfTables}
use Rattle.demands.proofs.Tables.{filled_hold}

module _ (p : Polygon) (t : Tables) {x : Patching} (e : x ≡ patched p t) where
  -- the lists in the first places of the tables
  pub first_candidates : candidates_left_of p x.left ≡ candidates_of p
  first_candidates = ap (λ (x : Patching). candidates_left_of p x.left) e ∙ filled_take (candidates_of p) t.candidates _ refl

  pub first_weights : weights_left p x.left ≡ weights_in p
  first_weights = ap (λ (x : Patching). weights_left p x.left) e ∙ filled_take (weights_in p) t.weights _ (sym (weight_count p))

  pub first_rows : rows_left_of p x.left ≡ rows_in p
  first_rows = ap (λ (x : Patching). rows_left_of p x.left) e ∙ filled_take (rows_in p) t.rows _ refl

  -- so they state the polygon's job
  pub job_left_lem : job_left p x.left ≡ job_in p
  job_left_lem = λ i. job_of p.n (first_candidates i) (first_weights i) (first_rows i)

  module _ (v : ValidPolygon p) where
    pub patched_demand2 : ListsLeft p t x.left
    patched_demand2 = subst (λ (x : Patching). ListsLeft p t x.left) (sym e) (filled_hold p v t.candidates t.weights t.rows)

    pub patched_demand3 : Demand3 (problem_in p) (answer_in x)
    patched_demand3 =
        subst (λ (a : Answer). Demand3 (problem_in p) a)
        (sym (ap answer_in e ∙ settled_states (best (problem_in p)) (length (candidates_of p)) t.triangles t.work))
        (demand3 (problem_in p) (valid_job p v))

    pub patched_demand3_of_tables : RightOfTables p x
    patched_demand3_of_tables = subst (λ (j : Job). Demand3 (problem_of j) (answer_in x)) (sym job_left_lem) patched_demand3

    -- what is handed back, over the polygon's lists and over those in the tables
    pub patched_handed : Handed (problem_in p) (handed_back x) x.outcome
    patched_handed =
        subst (λ (x : Patching). Handed (problem_in p) (handed_back x) x.outcome) (sym e)
        (settled_handed (problem_in p) (valid_job p v) (length (candidates_of p)) t.triangles t.work)

    pub patched_handed_of_tables : HandedOfTables p x
    patched_handed_of_tables = subst (λ (j : Job). Handed (problem_of j) (handed_back x) x.outcome) (sym job_left_lem) patched_handed

    -- the lists in the tables state a valid problem
    pub patched_valid : ValidProblem (problem_left p x.left)
    patched_valid = subst (λ (j : Job). ValidProblem (problem_of j)) (sym job_left_lem) (valid_job p v)

  pub patched_rest : RestOfTables p t x
  patched_rest = subst (λ (x : Patching). RestOfTables p t x) (sym e) (settled_rest (best (problem_in p)) (length (candidates_of p)) t.triangles t.work)
