-- Laws of rays.
pub mod RayLaws
