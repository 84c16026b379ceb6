-- The page of promises, proved: each promise by the theorem named beside it. Assumes nothing.
use mathlib.Core.Path.{refl}
use mathlib.Core.List.{List}
use Prim.Native.Nat.{ℕ}
use Rattle.rim_file.specs.File.{Bytes}
use Rattle.rim_file.proofs.Layouts as layouts
use Rattle.grid.proofs.Unique as unique
use Rattle.geometry.proofs.Lengths as lengths
use Rattle.geometry.proofs.Quarters as bends
use Rattle.polygon.specs.declared.Polygon.{Polygon}
use Rattle.reader.proofs.Demand1 as reader
use Rattle.reader.proofs.Accepted as accepted
use Rattle.reader.proofs.HalfSteps as half_steps
use Rattle.jobs.specs.Job.{Job}
use Rattle.triangulation.proofs.Tiling as tiling
use Rattle.pricing.specs.Quote.{priced}
use Rattle.pricing.specs.Patch.{patched_at}
use Rattle.pricing.proofs.Pricing as pricing
use Rattle.pricing.proofs.Patching as patching
use Rattle.pricing.proofs.Demands as agreed-patch
use Rattle.pricing.proofs.InTurn as in_turn
use Rattle.judge.proofs.Demands as judge
use Rattle.judge.proofs.Refusals as refusals
use Rattle.converter.proofs.Numbers as numbers
use Rattle.converter.proofs.Demands as converter
use Rattle.finder.specs.Finding.{find_call}
use Rattle.pipeline.specs.Finding.{find_file}
use Rattle.pipeline.specs.Patching.{Tables, patch_polygon, patch_file}
use Rattle.polygon.specs.Due.{PolygonBefore}
use Rattle.reader.specs.Order.{FileBefore}
use Rattle.demands.specs.Demand1.{polygon_in, CallDue}
use Rattle.demands.specs.Finding.{FindFileDue}
use Rattle.demands.specs.Polygons.{FindDue, PatchDue}
use Rattle.demands.proofs.Base as base
use Rattle.demands.proofs.Conversion as conversion
use Rattle.demands.proofs.Demand1 as demand1
use Rattle.demands.proofs.Demands as demands
use Rattle.demands.proofs.Finding as finding
use Rattle.demands.proofs.FileFinding as file-finding
use Rattle.demands.proofs.Flat as flat
use Rattle.demands.proofs.Judging as judging
use Rattle.demands.proofs.Limits as limits
use Rattle.demands.proofs.Numbers as rim-numbers
use Rattle.demands.proofs.OnePatch as one_patch
use Rattle.demands.proofs.Polygons as polygons
use Rattle.demands.proofs.Quarters as quarters
use Rattle.demands.proofs.Sizes as sizes
use Rattle.demands.proofs.Tables as tables
use Rattle.demands.proofs.Turns as turns
use Rattle.patch_program.specs.Printing.{printout_of}
use Rattle.patch_program.proofs.Demands as lines
use Rattle.promises.specs.Files.{ReaderCall, Editions, ConverterCall, HalfSteps, Limits}
use Rattle.promises.specs.Rims.{Finds, TellsSizes, Closes, TellsFileSizes, FlatRims, Lengths, Printing}
use Rattle.promises.specs.Jobs.{Prices, Patches, InTurn, Turns, Judging}
use Rattle.promises.specs.Promises.{Promises}

reads : (limit : ℕ) (file : List ℕ) → ReaderCall limit file
reads limit file = record {
  read_when = reader.read_when limit file;
  read_only_when = reader.read_only_when limit file;
  refused_first = reader.first_refused limit file;
  given_first = reader.given_first limit file;
  area_factor = accepted.read_area_factor limit file;
  bend_factor = accepted.read_bend_factor limit file;
  records = accepted.read_records limit file;
  ended = accepted.read_ended limit file;
  vertices = accepted.read_vertices limit file;
  normals = accepted.read_normals limit file;
}

finds : (p : Polygon) (candidates : List (List ℕ)) (weights : List ℕ) (rows : List (List ℕ)) →
    Finds PolygonBefore (FindDue p candidates weights rows) p candidates weights rows (find_call p candidates weights rows)
finds p candidates weights rows = record {
  found_when = finding.found_when p candidates weights rows;
  found_only_when = finding.found_only_when p candidates weights rows;
  refused_first = finding.refused_first p candidates weights rows;
  given_first = finding.given_first p candidates weights rows;
  lists = λ none. tables.find_hold p candidates weights rows _ _ (finding.found_when p candidates weights rows none);
  quarters = finding.find_quarters p candidates weights rows;
}

finds_in_files : (limit : ℕ) (file : List ℕ) → Bytes file → (candidates : List (List ℕ)) (weights : List ℕ) (rows : List (List ℕ)) →
    Finds FileBefore (FindFileDue limit file candidates weights rows) (polygon_in limit file) candidates weights rows
    (find_file limit file candidates weights rows)
finds_in_files limit file bytes candidates weights rows = record {
  found_when = file-finding.found_when limit file bytes candidates weights rows;
  found_only_when = file-finding.found_only_when limit file bytes candidates weights rows;
  refused_first = file-finding.refused_first limit file bytes candidates weights rows;
  given_first = file-finding.given_first limit file bytes candidates weights rows;
  lists = file-finding.found_hold limit file bytes candidates weights rows;
  quarters = file-finding.found_quarters limit file bytes candidates weights rows;
}

by_hand : (p : Polygon) (t : Tables) → Closes PolygonBefore (PatchDue p t) p t (patch_polygon p t)
by_hand p t = record {
  taken_when = polygons.taken_when p t;
  taken_only_when = polygons.taken_only_when p t;
  refused_first = polygons.refused_first p t;
  given_first = polygons.given_first p t;
  never_23 = rim-numbers.polygon_never_23 p t;
  lists = polygons.polygon_demand2 p t;
  quarters = polygons.polygon_quarters p t;
  right = polygons.polygon_demand3_of_tables p t;
  handed = polygons.polygon_handed_of_tables p t;
  rest = polygons.polygon_rest p t;
  valid = polygons.polygon_problem_valid p t;
}

closes : (limit : ℕ) (file : List ℕ) → Bytes file → (t : Tables) → Closes FileBefore (CallDue limit file t) (polygon_in limit file) t (patch_file limit file t)
closes limit file bytes t = record {
  taken_when = demand1.taken_when limit file bytes t;
  taken_only_when = demand1.taken_only_when limit file bytes t;
  refused_first = demand1.refused_first limit file bytes t;
  given_first = demand1.given_first limit file bytes t;
  never_23 = rim-numbers.file_never_23 limit file bytes t;
  lists = demands.file_demand2 limit file bytes t;
  quarters = demands.file_quarters limit file bytes t;
  right = demands.file_demand3_of_tables limit file bytes t;
  handed = demands.file_handed_of_tables limit file bytes t;
  rest = demands.file_rest limit file bytes t;
  valid = demands.file_valid limit file bytes t;
}

sizes_of_polygons : (p : Polygon) → TellsSizes p
sizes_of_polygons p = record {
  known_when = finding.sizes_known_when p;
  refused_first = finding.sizes_refused_first p;
  given_first = finding.sizes_given_first p;
}

sizes_of_files : (limit : ℕ) (file : List ℕ) (t : Tables) → TellsFileSizes limit file t
sizes_of_files limit file t = record {
  sizes_refused = sizes.sizes_refused limit file t;
  shorter_13 = λ e. sizes.shorter_13 limit file t e;
  enough_taken = λ e. sizes.enough_taken limit file t e;
}

prices_jobs : (job : Job) (work : List ℕ) → Prices job work (priced job work)
prices_jobs job work = record {
  priced_when = pricing.priced_when job work;
  priced_only_when = pricing.priced_only_when job work;
  refused_first = pricing.price_refused_first job work;
  given_first = pricing.price_given_first job work;
  total_when = pricing.total_when job work;
  total_is = pricing.total_is job work;
  none_when = pricing.none_when job work;
  none_only_when = pricing.none_only_when job work;
  zeros = pricing.price_work job work;
  valid = pricing.priced_valid job work;
}

patches_jobs : (job : Job) (agreed : ℕ) (triangles work : List ℕ) → Patches job agreed triangles work (patched_at job agreed triangles work)
patches_jobs job agreed triangles work = record {
  taken_when = agreed-patch.taken_when job agreed triangles work;
  taken_only_when = agreed-patch.taken_only_when job agreed triangles work;
  first_given = agreed-patch.first_given job agreed triangles work;
  given_first = agreed-patch.given_first job agreed triangles work;
  refused_first = agreed-patch.refused_first job agreed triangles work;
  gives_23 = agreed-patch.gives_23 job agreed triangles work;
  given_23 = agreed-patch.given_23 job agreed triangles work;
  unwritten = agreed-patch.unwritten job agreed triangles work;
  none_whatever = agreed-patch.none_whatever job agreed triangles work;
  right = agreed-patch.right job agreed triangles work;
  patch_when = agreed-patch.patch_at job agreed triangles work;
  total_agreed = agreed-patch.total_agreed job agreed triangles work;
  handed = agreed-patch.handed job agreed triangles work;
  rest = agreed-patch.rest job agreed triangles work;
  valid = patching.job_valid job agreed triangles work;
  judged_0 = judging.agreed_patch_accepted job agreed triangles work;
}

one_after_the_other : (job : Job) (triangles work : List ℕ) → InTurn job triangles work
one_after_the_other job triangles work = record {
  as_single = in_turn.in_turn job triangles work;
  price_as_single = in_turn.in_turn_values job triangles work;
  no_longer = λ count total e edited work'. agreed-patch.unwritten edited total triangles work';
  no_longer_23 = λ count total e edited work'. agreed-patch.gives_23 edited total triangles work';
  still_least = λ count total e edited work'. in_turn.best_at edited total triangles work';
}

in_editions : (file : List ℕ) → Editions file
in_editions file = record {
  layout_1 = layouts.edition_1_layout file;
  layout_2 = layouts.edition_2_layout file;
  answer_1 = λ one limit t. base.edition_1_answer limit file one t;
  answer_2 = λ one same limit t. base.edition_2_answer limit one same t;
}

converts : (file out : List ℕ) → ConverterCall file out
converts file out = record {
  converted_when = numbers.converted_when file out;
  converted_only_when = numbers.converted_only_when file out;
  refused_first = numbers.refused_first file out;
  given_first = numbers.given_first file out;
  in_other_edition = converter.in_other_edition file out;
  same_rim = converter.same_rim file out;
  same_answers = conversion.converted_answers file out;
  back = converter.back file out;
}

rounds : HalfSteps
rounds = record {
  none_nearer = unique.none_nearer;
  only_number = unique.only_number;
  vertices_rounded = λ limit file. half_steps.vertices_rounded file limit;
  vertices_fixed = λ limit file. half_steps.vertices_fixed file limit;
  one_patch = one_patch.file_fixes_patch;
}

within : (file : List ℕ) → Limits file
within file = record {
  limit_refused = λ limit bytes t. limits.limit_refused limit file bytes t;
  one_answer = λ least below most. limits.one_answer least below most file;
  more_vertices = λ least below most. limits.more_vertices least below most file;
  five_given = λ limit bytes t. limits.five_given limit file bytes t;
  twenty_given = λ limit bytes t. limits.twenty_given limit file bytes t;
  trim_as_bench = limits.trim_as_bench file;
}

in_turns : Turns
in_turns = record { of_jobs = turns.job_turn_by_turn; of_files = turns.file_turn_by_turn; of_polygons = turns.polygon_turn_by_turn }

in_plane : FlatRims
in_plane = record {
  flat_candidate = flat.flat_candidate;
  solid_candidate = flat.solid_candidate;
  circle_gets_12 = flat.circle_gets_12;
  twelve_by_circle = flat.twelve_by_circle;
  line_gets_none = flat.line_gets_none;
  triangle_gets_patch = flat.triangle_gets_patch;
}

measures : Lengths
measures = record {
  one_length = λ n h. lengths.has_one_length n (quarters.within h);
  above_0 = λ n h. lengths.length_is_above_0 (quarters.within h);
  about_four_times = lengths.about_four_times;
  longer_is_more = lengths.longer_is_more;
  one_bend = λ n k hn hk. bends.has_one_bend n k (quarters.within hn) (quarters.within hk);
  equal = λ n h. bends.equal_bend (quarters.within h);
  perpendicular = λ n k hn hk zn zk. bends.perpendicular_bend (quarters.within hn) zn (quarters.within hk) zk;
  opposite = λ n h. bends.opposite_bend (quarters.within h);
}

judges : (job : Job) (list : List ℕ) (total : ℕ) (work : List ℕ) → Judging job list total work
judges job list total work = record {
  accepts_when = judge.accepts_when job list total work;
  accepts_only_when = judge.accepts_only_when job list total work;
  accepted_excess = judge.accepted_excess job list total work;
  accepted_work = judge.accepted_work job list total work;
  refused_first = judge.refused_first job list total work;
  given_first = judge.given_first job list total work;
  gives_21 = refusals.gives_21 job list total work;
  given_21 = refusals.given_21 job list total work;
  gives_22 = refusals.gives_22 job list total work;
  given_22 = refusals.given_22 job list total work;
  any_order = λ list'. judge.order_never_matters job list list' total work;
  own_patch = judge.handed_accepted job total list work;
}

prints : (limit : ℕ) (file : List ℕ) → Printing limit file
unfolding printout_of
prints limit file = record { printed = refl; lines = lines.lines_hold limit file }

pub promises : Promises
promises = record {
  reading = reads;
  finding = finds;
  finding_files = finds_in_files;
  hand_built = by_hand;
  rim_files = closes;
  polygon_sizes = sizes_of_polygons;
  file_sizes = sizes_of_files;
  prices = prices_jobs;
  patches = patches_jobs;
  in_turn = one_after_the_other;
  tilings = λ problem. record { tiling_of = tiling.true_tiling problem; of_tiling = tiling.tiling_true problem };
  editions = in_editions;
  converting = converts;
  half_steps = rounds;
  limits = within;
  turns = in_turns;
  flat_rims = in_plane;
  lengths = measures;
  judging = judges;
  own_patches = judging.file_patch_accepted;
  printing = prints;
  refusal_values = λ k. refl;
  none_values = refl;
  refused_quote = λ k. refl;
  none_quote = refl;
}
