pub mod PieceCode
pub mod PieceView
pub mod PieceFalls
pub mod PatternView
pub mod TemplateView
pub mod TableView
