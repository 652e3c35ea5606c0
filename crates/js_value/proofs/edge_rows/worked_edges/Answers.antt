use Rattle.js_value.proofs.EdgeWorked.{array_edges, object_edges, constructor_edges, errors_made}
use Rattle.js_value.proofs.edge_rows.worked_edges.Goals as goal

pub returns-clause-array_edges : goal.returns-clause-array_edges
returns-clause-array_edges c = array_edges

pub returns-clause-object_edges : goal.returns-clause-object_edges
returns-clause-object_edges c = object_edges

pub returns-clause-constructor_edges : goal.returns-clause-constructor_edges
returns-clause-constructor_edges c = constructor_edges

pub returns-clause-errors_made : goal.returns-clause-errors_made
returns-clause-errors_made c = errors_made
