pub mod LawfulResponses
