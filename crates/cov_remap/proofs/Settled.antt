-- What is settled of a branch depends on its kind and on its locations, and keeps its counts.
use Rattle.std.proofs.Common.{◌≡◌, ℕ, Bool, true, false, cond, if◌then◌else◌, bytes_eq, codes, List, [], ◌∷◌, map, refl}
use Rattle.cov_object.specs.declared.location.Location.{Location}
use Rattle.cov_object.specs.declared.file.PathCoverage.{PathCoverage}
use Rattle.cov_object.specs.Location.{nowhere, same_location}
use Rattle.cov_object.specs.Branch.{if_paths, settled_paths}

abbrev pub locations_of : List PathCoverage → List Location
locations_of paths = map (λ path. path.location) paths

abbrev pub counts_of : List PathCoverage → List ℕ
counts_of paths = map (λ path. path.count) paths

abbrev if_locations : Location → List Location → List Location
if_locations location [] = []
if_locations location (first ∷ []) = first ∷ []
if_locations location (first ∷ second ∷ []) = first ∷ (if same_location second location then nowhere else second) ∷ []
if_locations location (first ∷ second ∷ third ∷ rest) = first ∷ second ∷ third ∷ rest

abbrev pub settled_locations : List ℕ → Location → List Location → List Location
settled_locations kind location places = if bytes_eq kind (codes "if") then if_locations location places else places

if-locations : (location : Location) (paths : List PathCoverage) → locations_of (if_paths location paths) ≡ if_locations location (locations_of paths)
if-locations location [] = refl
if-locations location (first ∷ []) = refl
if-locations location (first ∷ second ∷ []) = refl
if-locations location (first ∷ second ∷ third ∷ paths) = refl

locations-by : (is_if : Bool) (location : Location) (paths : List PathCoverage) →
    locations_of (cond is_if (if_paths location paths) paths) ≡ cond is_if (if_locations location (locations_of paths)) (locations_of paths)
locations-by true location paths = if-locations location paths
locations-by false location paths = refl

pub settled-locations : (kind : List ℕ) (location : Location) (paths : List PathCoverage) → locations_of (settled_paths kind location paths) ≡ settled_locations kind location (locations_of paths)
settled-locations kind location paths = locations-by (bytes_eq kind (codes "if")) location paths

if-counts : (location : Location) (paths : List PathCoverage) → counts_of (if_paths location paths) ≡ counts_of paths
if-counts location [] = refl
if-counts location (first ∷ []) = refl
if-counts location (first ∷ second ∷ []) = refl
if-counts location (first ∷ second ∷ third ∷ paths) = refl

counts-by : (is_if : Bool) (location : Location) (paths : List PathCoverage) → counts_of (cond is_if (if_paths location paths) paths) ≡ counts_of paths
counts-by true location paths = if-counts location paths
counts-by false location paths = refl

pub settled-counts : (kind : List ℕ) (location : Location) (paths : List PathCoverage) → counts_of (settled_paths kind location paths) ≡ counts_of paths
settled-counts kind location paths = counts-by (bytes_eq kind (codes "if")) location paths
